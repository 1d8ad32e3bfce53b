use Rattle.std.proofs.Common.{◌≡◌, ◌≤◌, ◌-◌, ◌∙◌, sym, ap, arith, length, map, drop, List}
use Rattle.std.proofs.lemmas.List.{length-map}
use Rattle.std.proofs.lemmas.Bool.{false≢true, lt-leb}
use Rattle.hs_base.specs.LiteralView.{literal_byte}
use Rattle.hs_base.specs.Literals.{LiteralByte}
use Rattle.hs_run.specs.Pieces.{takes_all}
use Rattle.hs_run.proofs.SpotLemmas.{history-tail}
use Rattle.hs_run.proofs.TakingLemmas.{ends-taken, taken-ends}
use Rattle.hs_run.proofs.literals.ends_here.Goals as goal

pub returns-then-literal-spot-clause-ends : goal.returns-then-literal-spot-clause-ends
returns-then-literal-spot-clause-ends c u is =
    let xs : List LiteralByte = map literal_byte c.args.literal.now in
    let size : length xs ≡ length c.args.literal.now = length-map c.args.literal.now literal_byte in
    let within : length xs ≤ length u = omega (arith, size, c.if-literal-spot.true, is.offset) in
    let read : c.takes_all.result ≡ takes_all xs (drop (length u - length xs) u) =
    c.takes_all.ensures ∙ ap (takes_all xs) (history-tail c.args.spot.now.history u (length c.args.literal.now) (length xs) is.past (sym size) c.requires within) in (
      λ says. taken-ends xs u within (sym read ∙ says),
      λ ends. read ∙ (ends-taken xs u ends).1,
    )

pub returns-else-literal-spot-clause-ends : goal.returns-else-literal-spot-clause-ends
returns-else-literal-spot-clause-ends c u is =
    let xs : List LiteralByte = map literal_byte c.args.literal.now in
    let size : length xs ≡ length c.args.literal.now = length-map c.args.literal.now literal_byte in (
      λ says. absurd (false≢true (sym (lt-leb (length c.args.literal.now) c.args.spot.now.at c.if-literal-spot.false) ∙ says)),
      λ ends. absurd (omega (arith, size, (ends-taken xs u ends).0, c.if-literal-spot.false, is.offset)),
    )

pub returns-else-literal-spot-clause-short : goal.returns-else-literal-spot-clause-short
returns-else-literal-spot-clause-short c says = absurd (false≢true (sym (lt-leb (length c.args.literal.now) c.args.spot.now.at c.if-literal-spot.false) ∙ says))
