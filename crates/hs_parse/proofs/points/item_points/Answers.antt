use Rattle.std.proofs.Common.{sym, ◌∙◌, arith}
use Rattle.hs_parse.specs.declared.item.Item.TheVariants as item
use Rattle.hs_parse.proofs.ItemLemmas.{item_end}
use Rattle.hs_parse.proofs.PointLemmas.{no_points, more_points}
use Rattle.hs_parse.proofs.points.item_points.Goals as goal

pub loop-test-init : goal.loop-test-init
loop-test-init c = (no_points _ _ _ _ c.new-all.ensures.items, c.requires.within)

pub loop-test-smaller : goal.loop-test-smaller
loop-test-smaller c =
    let far = item_end _ _ _ _ (item.Bytes c.in-Bytes.test c.in-Bytes.end) c.loop-test.invariant.1 (sym c.item_at.ensures ∙ c.in-Bytes.is) in
    omega (arith, far.0, far.1)

pub loop-test-preserved : goal.loop-test-preserved
loop-test-preserved c =
    let there = sym c.item_at.ensures ∙ c.in-Bytes.is in
    let far = item_end _ _ _ _ (item.Bytes c.in-Bytes.test c.in-Bytes.end) c.loop-test.invariant.1 there in
    (more_points _ _ _ _ _ _ _ _ c.loop-test.invariant.0 there c.in_ok-push_points-in-Bytes.ensures, far.1)
