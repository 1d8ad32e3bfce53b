use Rattle.std.proofs.Common.{◌≡◌, map, refl, sym, ◌∙◌, subst}
use Rattle.hs_base.specs.Items.{items_of, items_of_all}
use Rattle.hs_expr.specs.Meaning.{tree_of, trees_of}
use Rattle.hs_expr.proofs.TreeLemmas.{tree_of-Cat, tree_of-Repeat, tree_of-Class, tree_of-Points, tree_of-Assert, tree_of-Alt, trees_of-drop, trees_of-drop_all}
use Rattle.hs_support.specs.Walking.{PassesItems}
use Rattle.hs_support.proofs.PieceLemmas.{passes-more, item-passes, once-items, not_once-items}
use Rattle.hs_support.proofs.pieces.+walk_on.Goals as goal

pub walk_on-returns-in-Cat : goal.walk_on-returns-in-Cat
walk_on-returns-in-Cat t c =
    let same : items_of_all (trees_of (map tree_of c.deref.result.now)) ≡ items_of (tree_of c.args.expr.now) =
    rw (c.in-Cat.is, tree_of-Cat, c.deref.ensures.value) refl in
    subst (λ items. PassesItems c.args.walk items c.walk_on_through_all.result) same c.walk_on_through_all.ensures

pub walk_on-returns-then-is_once : goal.walk_on-returns-then-is_once
walk_on-returns-then-is_once t c =
    let once = once-items (tree_of c.in-Repeat.body.value) c.in-Repeat.least c.in-Repeat.greatest (sym c.is_once.ensures ∙ c.if-is_once.true) in
    let same : items_of (tree_of c.deref-then-is_once.result.now) ≡ items_of (tree_of c.args.expr.now) =
    rw (c.in-Repeat.is, tree_of-Repeat, c.deref-then-is_once.ensures) once in
    subst (λ items. PassesItems c.args.walk items c.walk_on.result) same c.walk_on.ensures

pub walk_on-returns-else-is_once : goal.walk_on-returns-else-is_once
walk_on-returns-else-is_once t c =
    let many = not_once-items (tree_of c.in-Repeat.body.value) c.in-Repeat.least c.in-Repeat.greatest (sym c.is_once.ensures ∙ c.if-is_once.false) in
    item-passes c.args.walk c.with_item.result (tree_of c.args.expr.now) (rw (c.in-Repeat.is, tree_of-Repeat) many) c.with_item.ensures

pub walk_on-returns-in-Class : goal.walk_on-returns-in-Class
walk_on-returns-in-Class t c =
    item-passes c.args.walk c.with_item-in-Class.result (tree_of c.args.expr.now) (rw (c.in-Class.is, tree_of-Class) refl) c.with_item-in-Class.ensures

pub walk_on-returns-in-Points : goal.walk_on-returns-in-Points
walk_on-returns-in-Points t c =
    item-passes c.args.walk c.with_item-in-Points.result (tree_of c.args.expr.now) (rw (c.in-Points.is, tree_of-Points) refl) c.with_item-in-Points.ensures

pub walk_on-returns-in-Assert : goal.walk_on-returns-in-Assert
walk_on-returns-in-Assert t c =
    item-passes c.args.walk c.with_item-in-Assert.result (tree_of c.args.expr.now) (rw (c.in-Assert.is, tree_of-Assert) refl) c.with_item-in-Assert.ensures

pub walk_on-returns-in-Alt : goal.walk_on-returns-in-Alt
walk_on-returns-in-Alt t c =
    item-passes c.args.walk c.with_item-in-Alt.result (tree_of c.args.expr.now) (rw (c.in-Alt.is, tree_of-Alt) refl) c.with_item-in-Alt.ensures

pub walk_on_through_all-loop-item-preserved : goal.walk_on_through_all-loop-item-preserved
walk_on_through_all-loop-item-preserved t c =
    let from = trees_of-drop c.args.items.now c.loop-item.item-index c.item-item.result c.loop-item-test.true c.item-item.is in
    let until = rw from at c.loop-item.invariant in
    passes-more c.args.walk c.loop-item.now c.walk_on-now.result (items_of_all (trees_of (map tree_of c.args.items.now)))
    (items_of (tree_of c.item-item.result)) _ until c.walk_on-now.ensures

pub walk_on_through_all-returns : goal.walk_on_through_all-returns
walk_on_through_all-returns t c =
    let last = trees_of-drop_all c.args.items.now c.loop-item.item-index c.loop-item-test.false in
    rw last at c.loop-item.invariant
