use Rattle.std.proofs.Common.{◌≡◌, ◌+◌, ◌∙◌, min, map, drop, arith}
use Rattle.hs_expr.specs.Meaning.{tree_of, trees_of}
use Rattle.hs_expr.specs.Counts.{capped, least_width, least_widths}
use Rattle.hs_expr.proofs.TreeLemmas.{trees_of-drop, trees_of-drop_all}
use Rattle.hs_expr.proofs.CountLemmas.{capped-least, capped-least_of}
use Rattle.hs_expr.proofs.counts.+least_width.Goals as goal

pub sum_of_least_widths-returns : goal.sum_of_least_widths-returns
sum_of_least_widths-returns t c =
    let last = rw (trees_of-drop_all c.args.items.now c.loop-item.item-index c.loop-item-test.false) at c.loop-item.invariant.1 in
    omega (arith, last)

pub least_of_least_widths-loop-item-preserved : goal.least_of_least_widths-loop-item-preserved
least_of_least_widths-loop-item-preserved t c =
    let from = trees_of-drop c.args.items.now c.loop-item.item-index c.item-item.result c.loop-item-test.true c.item-item.is in
    let rest = rw from at c.loop-item.invariant.1 in
    let same : capped c.min-width.result ≡ capped (min c.loop-item.width (least_width (tree_of c.item-item.result))) = omega arith in
    let later = least_widths (trees_of (map tree_of (drop (c.loop-item.item-index + 1) c.args.items.now))) in
    (omega arith, capped-least c.min-width.result _ later same ∙ rest)

pub least_of_least_widths-returns : goal.least_of_least_widths-returns
least_of_least_widths-returns t c =
    let last = rw (trees_of-drop_all c.args.items.now c.loop-item.item-index c.loop-item-test.false) at c.loop-item.invariant.1 in
    let whole = capped-least_of c.args.items.now (c.if-is_empty.ensures) in
    omega (arith, last, whole)
