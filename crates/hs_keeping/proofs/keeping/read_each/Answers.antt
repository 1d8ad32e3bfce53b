use Rattle.std.proofs.Common.{◌≡◌, ℕ, get_or, Some, slice_get, ◌∙◌, arith}
use Rattle.std.proofs.lemmas.Option.{slice_get-get_or, slice_get_within}
use Rattle.hs_reports.specs.declared.identifier.Identifier.{Identifier}
use Rattle.hs_keeping.specs.Finishing.{no_identifier}
use Rattle.hs_keeping.proofs.KeepingLemmas.{read-more, single-below, singles-few, singles-next}
use Rattle.hs_keeping.proofs.keeping.read_each.Goals as goal

pub read_one-requires-clause-single : goal.read_one-requires-clause-single
read_one-requires-clause-single c is =
    let at : slice_get c.args.identifiers.now c.loop-p.p ≡ Some (get_or c.args.identifiers.now c.loop-p.p no_identifier) = slice_get-get_or c.args.identifiers.now c.loop-p.p no_identifier c.loop-p-test.true in
    omega (arith, single-below c.args.identifiers.now c.loop-p.p (get_or c.args.identifiers.now c.loop-p.p no_identifier) at is, c.loop-p.invariant.single, c.requires.bits.singles)

pub singles_up_to-single-requires : goal.singles_up_to-single-requires
singles_up_to-single-requires c =
    record { room = omega (arith, singles-few c.args.identifiers.now c.loop-p.p (omega (arith, c.loop-p-test.true)), c.loop-p.invariant.single, c.loop-p-test.true, c.requires.few) }

pub loop-p-preserved : goal.loop-p-preserved
loop-p-preserved c =
    let p : ℕ = c.loop-p.p in
    let inv = c.loop-p.invariant in
    let xs = c.args.identifiers.now in
    let x : Identifier = get_or xs p no_identifier in
    let at : slice_get xs p ≡ Some x = slice_get-get_or xs p no_identifier c.loop-p-test.true in
    record {
      told = c.read_one.ensures.told_len ∙ inv.told;
      here = c.read_one.ensures.here_len ∙ inv.here;
      single = omega (arith, c.singles_up_to-single.ensures, inv.single, singles-next xs p x at);
      read =
          read-more c.args.layout.now c.args.region.now xs c.loop-p.told c.loop-p.here c.read_one.new.told c.read_one.new.here p c.loop-p.single x at inv.single c.read_one.ensures.read c.read_one.ensures.told c.read_one.ensures.here inv.read;
    }

pub returns-clause-read : goal.returns-clause-read
returns-clause-read c j x at = c.loop-p.invariant.read j x (omega (arith, slice_get_within c.args.identifiers.now j x at, c.loop-p-test.false)) at
