-- Expressions in which no assertion stands.
use Rattle.std.specs.Prelude.{List}
use Rattle.hs_base.specs.Lists.{Each}
use Rattle.hs_base.specs.declared.assertion.Assertion.{Assertion}
use Rattle.hs_base.specs.Trees.{Tree, Trees, empty, class, points, assert, cat, alt, repeat, none, more}
use Rattle.hs_base.specs.Patterns.{Pattern}

-- each assertion of a tree has the property
abbrev mutual
  pub EachAssertion : (Assertion → Type 0) → Tree → Type 0
  EachAssertion Q empty = Unit {0}
  EachAssertion Q (class set) = Unit {0}
  EachAssertion Q (points ranges) = Unit {0}
  EachAssertion Q (assert assertion) = Q assertion
  EachAssertion Q (cat items) = EachAssertionOf Q items
  EachAssertion Q (alt items) = EachAssertionOf Q items
  EachAssertion Q (repeat body least greatest) = EachAssertion Q body

  pub EachAssertionOf : (Assertion → Type 0) → Trees → Type 0
  EachAssertionOf Q none = Unit {0}
  EachAssertionOf Q (more item items) = EachAssertion Q item × EachAssertionOf Q items

-- the tree has no assertion
abbrev pub IsAssertionFree : Tree → Type 0
IsAssertionFree tree = EachAssertion (λ assertion. ⊥) tree

-- no pattern of the list has one
abbrev pub AreAssertionFree : List Pattern → Type 0
AreAssertionFree P = Each (λ x. IsAssertionFree x.tree) P
