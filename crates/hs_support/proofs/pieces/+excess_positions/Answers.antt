use Rattle.std.proofs.Common.{◌+◌, map, drop, sym, ap, ◌∙◌}
use Rattle.std.specs.Option.{option_map}
use Rattle.hs_base.specs.Chains.{chains_of}
use Rattle.hs_expr.specs.Counts.{capped}
use Rattle.hs_expr.specs.Meaning.{tree_of, trees_of}
use Rattle.hs_expr.proofs.TreeLemmas.{trees_of-drop}
use Rattle.hs_support.specs.PieceCounts.{first_excess_of}
use Rattle.hs_expr.specs.Waiting.{chains_of_all}
use Rattle.hs_support.proofs.PieceLemmas.{more-excess, found-first, none-first}
use Rattle.hs_support.proofs.pieces.+excess_positions.Goals as goal

pub excess_of_all-returns-in-Some : goal.excess_of_all-returns-in-Some
excess_of_all-returns-in-Some t c =
    let from = trees_of-drop c.args.items.now c.loop-item.item-index c.item-item.result c.loop-item-test.true c.item-item.is in
    let rest = trees_of (map tree_of (drop (c.loop-item.item-index + 1) c.args.items.now)) in
    let item = tree_of c.item-item.result in
    found-first c.in-Some.count (first_excess_of (chains_of item)) (first_excess_of (chains_of_all rest)) c.in-Some.ensures
    ∙ ap (option_map capped) (sym (more-excess item rest))
    ∙ ap (λ trees. option_map capped (first_excess_of (chains_of_all trees))) (sym from)
    ∙ sym c.loop-item.invariant

pub excess_of_all-loop-item-preserved : goal.excess_of_all-loop-item-preserved
excess_of_all-loop-item-preserved t c =
    let from = trees_of-drop c.args.items.now c.loop-item.item-index c.item-item.result c.loop-item-test.true c.item-item.is in
    let rest = trees_of (map tree_of (drop (c.loop-item.item-index + 1) c.args.items.now)) in
    let item = tree_of c.item-item.result in
    c.loop-item.invariant
    ∙ ap (λ trees. option_map capped (first_excess_of (chains_of_all trees))) from
    ∙ ap (option_map capped) (more-excess item rest)
    ∙ none-first (first_excess_of (chains_of item)) (first_excess_of (chains_of_all rest)) c.in_default.ensures
