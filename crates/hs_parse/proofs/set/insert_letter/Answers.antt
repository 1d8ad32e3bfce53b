use Rattle.std.proofs.Common.{◌||◌, eqb, ap, ◌∙◌, arith}
use Rattle.hs_base.specs.ByteSets.{has}
use Rattle.hs_parse.proofs.InsertLemmas.{with_other}
use Rattle.hs_parse.proofs.set.insert_letter.Goals as goal

pub returns-then-caseless : goal.returns-then-caseless
returns-then-caseless c =
    with_other c.args.caseless c.args.byte c.args.set.now c.insert.new.self c.insert-then-caseless.new.self
    (omega (arith, c.ranges.byte.fits)) c.if-caseless.true c.insert.ensures
    (λ b h. c.insert-then-caseless.ensures b h ∙ ap (λ n. eqb b n || has c.insert.new.self b) c.other_case.ensures)
