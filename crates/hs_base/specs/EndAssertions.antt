-- End assertions, and where bytes may be consumed after one.
use Rattle.std.specs.Prelude.{zero, suc, Bool, true, false, ◌||◌, ◌&&◌, Some, None}
use Rattle.hs_base.specs.declared.assertion.Assertion.{Assertion}
use Rattle.hs_base.specs.declared.assertion.Assertion.TheVariants.{StreamStart, LineStart, LineEnd, EndOrFinalNewline}
use Rattle.hs_base.specs.declared.assertion.Assertion.TheVariants.{StreamEnd, WordBoundary, NotWordBoundary}
use Rattle.hs_base.specs.Trees.{Tree, Trees, empty, class, points, assert, cat, alt, repeat, none, more}

-- `$` without multiline, `\Z` and `\z`
abbrev pub is_end_assertion : Assertion → Bool
is_end_assertion StreamStart = false
is_end_assertion LineStart = false
is_end_assertion LineEnd = false
is_end_assertion EndOrFinalNewline = true
is_end_assertion StreamEnd = true
is_end_assertion WordBoundary = false
is_end_assertion NotWordBoundary = false

-- whether it may consume bytes: its greatest width isn't 0
abbrev mutual
  pub may_consume : Tree → Bool
  may_consume empty = false
  may_consume (class set) = true
  may_consume (points ranges) = true
  may_consume (assert assertion) = false
  may_consume (cat items) = one_may_consume items
  may_consume (alt items) = one_may_consume items
  may_consume (repeat body least None) = may_consume body
  may_consume (repeat body least (Some zero)) = false
  may_consume (repeat body least (Some (suc most))) = may_consume body

  pub one_may_consume : Trees → Bool
  one_may_consume none = false
  one_may_consume (more item items) = may_consume item || one_may_consume items

-- Whether it has an end assertion after which bytes may still be consumed, in it or, if `after` says so, behind it.
abbrev mutual
  pub has_embedded_end : Tree → (after : Bool) → Bool
  has_embedded_end empty after = false
  has_embedded_end (class set) after = false
  has_embedded_end (points ranges) after = false
  has_embedded_end (assert assertion) after = after && is_end_assertion assertion
  has_embedded_end (cat items) after = sequence_has_embedded_end items after
  has_embedded_end (alt items) after = one_has_embedded_end items after
  has_embedded_end (repeat body least None) after = has_embedded_end body (after || may_consume body)
  has_embedded_end (repeat body least (Some zero)) after = false
  has_embedded_end (repeat body least (Some (suc zero))) after = has_embedded_end body after
  has_embedded_end (repeat body least (Some (suc (suc most)))) after = has_embedded_end body (after || may_consume body)

  pub sequence_has_embedded_end : Trees → (after : Bool) → Bool
  sequence_has_embedded_end none after = false
  sequence_has_embedded_end (more item items) after =
      has_embedded_end item (after || one_may_consume items) || sequence_has_embedded_end items after

  pub one_has_embedded_end : Trees → (after : Bool) → Bool
  one_has_embedded_end none after = false
  one_has_embedded_end (more item items) after = has_embedded_end item after || one_has_embedded_end items after
