use Rattle.std.proofs.lemmas.Bool.{false≢true}
use Rattle.hs_expr.specs.Meaning.{tree_of}
use Rattle.hs_expr.proofs.TreeLemmas.{tree_of-Points, tree_of-Repeat, trees_of-drop}
use Rattle.hs_expr.proofs.EmptySpans.{points-not_empty, repeat-empty, cat-empty_first, cat-not_empty, refutes}
use Rattle.hs_expr.proofs.empty_span.+matches_empty.Goals as goal

pub matches_empty-returns-in-Points : goal.matches_empty-returns-in-Points
matches_empty-returns-in-Points t c =
    rw (c.in-Points.is, tree_of-Points) (λ never. absurd (false≢true never), λ h. absurd (points-not_empty _ h))

pub matches_empty-returns-then-allows_copies : goal.matches_empty-returns-then-allows_copies
matches_empty-returns-then-allows_copies t c =
    let both = rw c.deref-then-allows_copies.ensures at c.matches_empty.ensures in
    let step = repeat-empty (tree_of c.in-Repeat.body.value) c.in-Repeat.least c.in-Repeat.greatest c.if-least-eq0.false
    (c.allows_copies.ensures.0 c.if-allows_copies.true) in
    rw (c.in-Repeat.is, tree_of-Repeat) (λ yes. step.0 (both.0 yes), λ h. both.1 (step.1 h))

pub all_match_empty-returns-then-not-matches_empty : goal.all_match_empty-returns-then-not-matches_empty
all_match_empty-returns-then-not-matches_empty t c =
    let from = trees_of-drop c.args.items.now c.loop-item.item-index c.item-item.result c.loop-item-test.true c.item-item.is in
    let rest = rw from at c.loop-item.invariant in
    let never = refutes c.matches_empty.result c.if-not-matches_empty.true c.matches_empty.ensures.1 in
    (λ no. absurd (false≢true no), λ h. absurd (cat-not_empty _ _ never (rest.0 h)))

pub all_match_empty-loop-item-preserved : goal.all_match_empty-loop-item-preserved
all_match_empty-loop-item-preserved t c =
    let from = trees_of-drop c.args.items.now c.loop-item.item-index c.item-item.result c.loop-item-test.true c.item-item.is in
    let rest = rw from at c.loop-item.invariant in
    let here = cat-empty_first _ _ (c.matches_empty.ensures.0 c.if-not-matches_empty.false) in
    (λ h. here.0 (rest.0 h), λ h. rest.1 (here.1 h))
