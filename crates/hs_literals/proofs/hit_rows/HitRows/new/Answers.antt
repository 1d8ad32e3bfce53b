use Rattle.std.proofs.Common.{arith}
use Rattle.hs_literals.proofs.HitTableLemmas.{blank-rows, table-blank}
use Rattle.hs_literals.proofs.hit_rows.HitRows.new.Goals as goal

pub invariant_of-result : goal.invariant_of-result
invariant_of-result c =
    let rows = c.in_ok-vec.field-0 in
    table-blank _ c.args.count (blank-rows rows.items c.in_ok-new.field-0 c.args.count _ (c.in_ok-vec.ensures.items_if_clones_equal (λ y e. e)) c.in_ok-new.ensures.none) c.requires (omega (arith, c.in_ok-vec.ensures.len, rows.ok.0)) c.in_ok-new.ensures.room

pub returns : goal.returns
returns c = blank-rows c.in_ok-vec.field-0.items c.in_ok-new.field-0 c.args.count _ (c.in_ok-vec.ensures.items_if_clones_equal (λ y e. e)) c.in_ok-new.ensures.none
