use Rattle.std.proofs.Common.{◌∙◌, arith, subst}
use Rattle.hs_literals.specs.HitTables.{IsBlank}
use Rattle.hs_literals.proofs.HitTableLemmas.{blank-unmarked, none-further, none-left}
use Rattle.hs_literals.proofs.hit_rows.HitRows.clear.Goals as goal

pub overflow_add-from : goal.overflow_add-from
overflow_add-from c = omega (arith, c.in-Some.ensures.next.high, c.in-Some.ensures.few)

pub loop-number-preserved : goal.loop-number-preserved
loop-number-preserved c = record {
  count = c.forget.ensures.count ∙ c.loop-number.invariant.count;
  none = none-further c.loop-number.self c.forget.new.self c.loop-number.from c.in-Some.number c.loop-number.invariant.none c.in-Some.ensures.next.least c.forget.ensures;
}

pub returns : goal.returns
returns c =
    let table = c.loop-number.self in
    subst (IsBlank table) c.loop-number.invariant.count
    (blank-unmarked table c.in_default.ensures.marked (none-left table c.loop-number.from c.in_default.ensures.marked c.loop-number.invariant.none c.in_default.ensures.next))
