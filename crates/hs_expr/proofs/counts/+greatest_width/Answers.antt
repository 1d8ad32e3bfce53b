use Rattle.std.proofs.Common.{◌≡◌, ◌+◌, ◌∙◌, sym, ap, Some, map, drop, arith}
use Rattle.std.specs.Option.{option_map}
use Rattle.hs_expr.specs.Meaning.{tree_of, trees_of}
use Rattle.hs_expr.specs.Counts.{capped, greatest_width, greatest_widths}
use Rattle.hs_expr.proofs.TreeLemmas.{trees_of-drop, trees_of-drop_all}
use Rattle.hs_expr.proofs.CountLemmas.{capped-sum, capped-greatest, capped-one_added, capped-one_greater, unbounded-sum, unbounded-greatest}
use Rattle.hs_expr.proofs.counts.+greatest_width.Goals as goal

pub sum_of_greatest_widths-returns-in_err-greatest_width : goal.sum_of_greatest_widths-returns-in_err-greatest_width
sum_of_greatest_widths-returns-in_err-greatest_width t c =
    let from = trees_of-drop c.args.items.now c.loop-item.item-index c.item-item.result c.loop-item-test.true c.item-item.is in
    let rest = rw from at c.loop-item.invariant.1 in
    let later = greatest_widths (trees_of (map tree_of (drop (c.loop-item.item-index + 1) c.args.items.now))) in
    let no_bound = unbounded-sum c.loop-item.width (greatest_width (tree_of c.item-item.result)) later c.in_err-greatest_width.ensures in
    c.from_residual.ensures ∙ sym (ap (option_map capped) no_bound) ∙ rest

pub sum_of_greatest_widths-loop-item-preserved : goal.sum_of_greatest_widths-loop-item-preserved
sum_of_greatest_widths-loop-item-preserved t c =
    let from = trees_of-drop c.args.items.now c.loop-item.item-index c.item-item.result c.loop-item-test.true c.item-item.is in
    let rest = rw from at c.loop-item.invariant.1 in
    let same = capped-one_added c.loop-item.width c.in_ok-greatest_width.field-0 c.saturating_add-width.result
    (greatest_width (tree_of c.item-item.result)) c.in_ok-greatest_width.ensures c.saturating_add-width.ensures in
    let later = greatest_widths (trees_of (map tree_of (drop (c.loop-item.item-index + 1) c.args.items.now))) in
    (omega arith, capped-sum (Some c.saturating_add-width.result) _ later same ∙ rest)

pub sum_of_greatest_widths-returns : goal.sum_of_greatest_widths-returns
sum_of_greatest_widths-returns t c =
    let last = rw (trees_of-drop_all c.args.items.now c.loop-item.item-index c.loop-item-test.false) at c.loop-item.invariant.1 in
    let is : c.loop-item.width ≡ capped c.loop-item.width = omega arith in
    ap Some is ∙ last

pub greatest_of_greatest_widths-returns-in_err-greatest_width : goal.greatest_of_greatest_widths-returns-in_err-greatest_width
greatest_of_greatest_widths-returns-in_err-greatest_width t c =
    let from = trees_of-drop c.args.items.now c.loop-item.item-index c.item-item.result c.loop-item-test.true c.item-item.is in
    let rest = rw from at c.loop-item.invariant.1 in
    let later = greatest_widths (trees_of (map tree_of (drop (c.loop-item.item-index + 1) c.args.items.now))) in
    let no_bound = unbounded-greatest c.loop-item.width (greatest_width (tree_of c.item-item.result)) later c.in_err-greatest_width.ensures in
    c.from_residual.ensures ∙ sym (ap (option_map capped) no_bound) ∙ rest

pub greatest_of_greatest_widths-loop-item-preserved : goal.greatest_of_greatest_widths-loop-item-preserved
greatest_of_greatest_widths-loop-item-preserved t c =
    let from = trees_of-drop c.args.items.now c.loop-item.item-index c.item-item.result c.loop-item-test.true c.item-item.is in
    let rest = rw from at c.loop-item.invariant.1 in
    let same = capped-one_greater c.loop-item.width c.in_ok-greatest_width.field-0 c.max-width.result
    (greatest_width (tree_of c.item-item.result)) c.in_ok-greatest_width.ensures c.max-width.ensures in
    let later = greatest_widths (trees_of (map tree_of (drop (c.loop-item.item-index + 1) c.args.items.now))) in
    (omega arith, capped-greatest (Some c.max-width.result) _ later same ∙ rest)

pub greatest_of_greatest_widths-returns : goal.greatest_of_greatest_widths-returns
greatest_of_greatest_widths-returns t c =
    let last = rw (trees_of-drop_all c.args.items.now c.loop-item.item-index c.loop-item-test.false) at c.loop-item.invariant.1 in
    let is : c.loop-item.width ≡ capped c.loop-item.width = omega arith in
    ap Some is ∙ last
