use Rattle.std.proofs.Common.{◌≡◌, ◌+◌, subst, sym, ap, ◌∙◌, arith}
use Rattle.hs_base.specs.Regions.{fields_at}
use Rattle.hs_layout.specs.Layouts.{AreApart, laid_size}
use Rattle.hs_layout.proofs.StartLemmas.{are-apart, header-within, same-layout, size-last}
use Rattle.hs_layout.proofs.layout.Layout.new.Goals as goal

pub bytes_for-requires : goal.bytes_for-requires
bytes_for-requires c = record { small = omega (arith, c.requires.small, header-within c.args.singles c.args.identifiers c.args.field_sizes.now) }

pub bytes_for-requires-2 : goal.bytes_for-requires-2
bytes_for-requires-2 c = record { small = omega (arith, c.requires.small, header-within c.args.singles c.args.identifiers c.args.field_sizes.now) }

pub bytes_for-requires-3 : goal.bytes_for-requires-3
bytes_for-requires-3 c = record { small = omega (arith, c.requires.small, header-within c.args.singles c.args.identifiers c.args.field_sizes.now) }

pub invariant_of-result : goal.invariant_of-result
invariant_of-result c =
    let first : 72 + c.bytes_for.result + c.bytes_for-2.result + c.bytes_for-3.result ≡ fields_at c.args.singles c.args.identifiers =
    omega (arith, c.bytes_for.ensures, c.bytes_for-2.ensures, c.bytes_for-3.ensures) in
    subst AreApart (same-layout c.args.singles c.args.identifiers (72 + c.bytes_for.result + c.bytes_for-2.result + c.bytes_for-3.result) c.args.field_sizes.now c.in_ok-starts.starts.items first c.in_ok-starts.ensures)
    (are-apart c.args.singles c.args.identifiers c.args.field_sizes.now c.requires.small)

pub returns-clause-size : goal.returns-clause-size
returns-clause-size c =
    let first : 72 + c.bytes_for.result + c.bytes_for-2.result + c.bytes_for-3.result ≡ fields_at c.args.singles c.args.identifiers =
    omega (arith, c.bytes_for.ensures, c.bytes_for-2.ensures, c.bytes_for-3.ensures) in
    ap laid_size (sym (same-layout c.args.singles c.args.identifiers (72 + c.bytes_for.result + c.bytes_for-2.result + c.bytes_for-3.result) c.args.field_sizes.now c.in_ok-starts.starts.items first c.in_ok-starts.ensures))
    ∙ size-last c.args.singles c.args.identifiers c.args.field_sizes.now
