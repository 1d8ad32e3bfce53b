-- An expression as a tree of plain data.
use Rattle.std.specs.Prelude.{◌≡◌, ℕ, ◌<◌, ◌≤◌, Bool, List, [], ◌∷◌, length, Option, IfSome}
use Rattle.hs_base.specs.Lists.{Each}
use Rattle.hs_base.specs.declared.assertion.Assertion.{Assertion}

-- A set of bytes: at each byte, from 0 to 255, whether it is a member. A range of code points: its first and its last.
mutual
  pub data Tree : Type 0 where
    -- the empty text
    empty : Tree
    -- one byte of a set
    class : List Bool → Tree
    -- the encoding of one code point of some ranges
    points : List (ℕ × ℕ) → Tree
    -- a place where the assertion holds
    assert : Assertion → Tree
    -- the items, one after the other
    cat : Trees → Tree
    -- one of the alternatives
    alt : Trees → Tree
    -- so many copies of the body, at least and, where there is a second number, at most
    repeat : Tree → ℕ → Option ℕ → Tree

  pub data Trees : Type 0 where
    none : Trees
    more : Tree → Trees → Trees

-- trees in a row
abbrev pub trees_of : List Tree → Trees
trees_of [] = none
trees_of (item ∷ items) = more item (trees_of items)

-- the greatest bound that a repeat may have
abbrev pub greatest_bound : ℕ
greatest_bound = 32767

-- the bounds of a repeat are small enough and in order
pub record AreBounds (n : ℕ) (m : Option ℕ) : Type 0 where
  pub least : n ≤ greatest_bound
  pub greatest : IfSome m (λ k. (n ≤ k) × (k ≤ greatest_bound))

-- a range of code points is in order and within Unicode
abbrev pub IsRange : ℕ × ℕ → Type 0
IsRange (first, last) = (first ≤ last) × (last < 0x110000)

-- all values of a tree are within their types
abbrev mutual
  pub IsProper : Tree → Type 0
  IsProper empty = Unit {0}
  IsProper (class set) = length set ≡ 256
  IsProper (points ranges) = Each IsRange ranges
  IsProper (assert assertion) = Unit {0}
  IsProper (cat items) = AreProper items
  IsProper (alt items) = AreProper items
  IsProper (repeat body least greatest) = IsProper body × AreBounds least greatest

  pub AreProper : Trees → Type 0
  AreProper none = Unit {0}
  AreProper (more item items) = IsProper item × AreProper items
