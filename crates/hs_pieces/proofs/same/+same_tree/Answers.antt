use Rattle.std.proofs.Common.{List, map, ap, sym, ◌∙◌, arith}
use Rattle.std.proofs.lemmas.Bool.{false≢true}
use Rattle.hs_base.specs.Trees.{cat, alt, trees_of}
use Rattle.hs_expr.specs.Meaning.{tree_of}
use Rattle.hs_expr.specs.declared.expr.Expr.{Expr}
use Rattle.hs_expr.proofs.TreeLemmas.{tree_of-Alt, tree_of-Cat}
use Rattle.hs_pieces.proofs.SameLemmas.{agree-along, alt-agree, cat-agree, same-at, same-more}
use Rattle.hs_pieces.proofs.same.+same_tree.Goals as goal

pub same_tree-returns-in-Cat-Cat : goal.same_tree-returns-in-Cat-Cat
same_tree-returns-in-Cat-Cat t c =
    let xs = c.deref-in-Cat-Cat.result.now in
    let ys = c.deref-in-Cat-Cat-2.result.now in
    agree-along c.same_trees.result (tree_of c.args.a.now) (tree_of c.args.b.now) (cat (trees_of (map tree_of xs))) (cat (trees_of (map tree_of ys)))
    (ap tree_of c.in-Cat-Cat.is-0 ∙ tree_of-Cat c.in-Cat-Cat.xs ∙ ap (λ (items : List Expr). cat (trees_of (map tree_of items))) (sym c.deref-in-Cat-Cat.ensures.value))
    (ap tree_of c.in-Cat-Cat.is-1 ∙ tree_of-Cat c.in-Cat-Cat.ys ∙ ap (λ (items : List Expr). cat (trees_of (map tree_of items))) (sym c.deref-in-Cat-Cat-2.ensures.value))
    (cat-agree c.same_trees.result (map tree_of xs) (map tree_of ys) c.same_trees.ensures)

pub same_tree-returns-in-Alt-Alt : goal.same_tree-returns-in-Alt-Alt
same_tree-returns-in-Alt-Alt t c =
    let xs = c.deref-in-Alt-Alt.result.now in
    let ys = c.deref-in-Alt-Alt-2.result.now in
    agree-along c.same_trees-in-Alt-Alt.result (tree_of c.args.a.now) (tree_of c.args.b.now) (alt (trees_of (map tree_of xs))) (alt (trees_of (map tree_of ys)))
    (ap tree_of c.in-Alt-Alt.is-0 ∙ tree_of-Alt c.in-Alt-Alt.xs ∙ ap (λ (items : List Expr). alt (trees_of (map tree_of items))) (sym c.deref-in-Alt-Alt.ensures.value))
    (ap tree_of c.in-Alt-Alt.is-1 ∙ tree_of-Alt c.in-Alt-Alt.ys ∙ ap (λ (items : List Expr). alt (trees_of (map tree_of items))) (sym c.deref-in-Alt-Alt-2.ensures.value))
    (alt-agree c.same_trees-in-Alt-Alt.result (map tree_of xs) (map tree_of ys) c.same_trees-in-Alt-Alt.ensures)

pub same_trees-returns-then-not-same_tree : goal.same_trees-returns-then-not-same_tree
same_trees-returns-then-not-same_tree t c = (
  λ is. absurd (false≢true is),
  λ same. absurd (false≢true (sym c.if-not-same_tree.true ∙ c.same_tree.ensures.1 (same-at tree_of c.args.xs.now c.args.ys.now c.loop-k.k c.index-xs-k.result c.index-ys-k.result
      (omega arith) (omega arith) c.index-xs-k.is c.index-ys-k.is same))),
)

pub same_trees-loop-k-preserved : goal.same_trees-loop-k-preserved
same_trees-loop-k-preserved t c =
    same-more tree_of c.args.xs.now c.args.ys.now c.loop-k.k c.index-xs-k.result c.index-ys-k.result
    (omega arith) (omega arith) c.index-xs-k.is c.index-ys-k.is c.loop-k.invariant (c.same_tree.ensures.0 c.if-not-same_tree.false)
