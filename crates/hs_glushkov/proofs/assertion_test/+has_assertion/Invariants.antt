use Rattle.std.proofs.Common.{◌≡◌, map, drop}
use Rattle.hs_expr.specs.Meaning.{tree_of, trees_of}
use Rattle.hs_base.specs.AssertionTests.{one_has_assertion}
use Rattle.hs_glushkov.proofs.assertion_test.+has_assertion.Given as goal

-- none of those so far has one, so that one has exactly where one of the others does
abbrev pub invariant-one_has_assertion-loop-item : goal.invariant-one_has_assertion-loop-item
invariant-one_has_assertion-loop-item l =
    one_has_assertion (trees_of (map tree_of (drop l.item-index l.items))) ≡ one_has_assertion (trees_of (map tree_of l.items))
