-- Whether an expression has an assertion.
use Rattle.std.specs.Prelude.{Bool, true, false, ◌||◌}
use Rattle.hs_base.specs.Trees.{Tree, Trees, empty, class, points, assert, cat, alt, repeat, none, more}

-- an assertion stands in the tree, also in the body of a repeat that allows no copy
abbrev mutual
  pub has_assertion : Tree → Bool
  has_assertion empty = false
  has_assertion (class set) = false
  has_assertion (points ranges) = false
  has_assertion (assert assertion) = true
  has_assertion (cat items) = one_has_assertion items
  has_assertion (alt items) = one_has_assertion items
  has_assertion (repeat body least greatest) = has_assertion body

  pub one_has_assertion : Trees → Bool
  one_has_assertion none = false
  one_has_assertion (more item items) = has_assertion item || one_has_assertion items
