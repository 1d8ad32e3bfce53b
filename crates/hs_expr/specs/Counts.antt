-- Counts over an expression: the widths of what it matches, in bytes, and its positions. They have no limit; what is
-- answered is capped. A code point counts as one place of 1 to 4 bytes, as its encoding in UTF-8.
use Rattle.std.specs.Prelude.{ℕ, zero, suc, ◌+◌, ◌*◌, ◌≤◌, min, max, List, [], ◌∷◌, sum, fold, Bool, Option, Some, None}
use Rattle.std.specs.Prelude.{IfSome}
use Rattle.hs_base.specs.Trees.{Tree, Trees, empty, class, points, assert, cat, alt, repeat, none, more}
use Rattle.hs_base.specs.Spans.{Spans}

-- the greatest count that is answered
abbrev pub greatest_count : ℕ
greatest_count = 0xFFFFFFFF

-- a count as it is answered
abbrev pub capped : ℕ → ℕ
capped n = min n greatest_count

-- the bytes of the longest encoding of a code point
abbrev pub longest_encoding : ℕ
longest_encoding = 4

-- the least of some numbers; of none it is 0
abbrev pub least_of : List ℕ → ℕ
least_of [] = 0
least_of (n ∷ ns) = fold min n ns

-- The least width: no span is shorter.
abbrev mutual
  pub least_width : Tree → ℕ
  least_width empty = 0
  least_width (class set) = 1
  least_width (points ranges) = 1
  least_width (assert assertion) = 0
  least_width (cat items) = sum (least_widths items)
  least_width (alt items) = least_of (least_widths items)
  least_width (repeat body least greatest) = least_width body * least

  pub least_widths : Trees → List ℕ
  least_widths none = []
  least_widths (more item items) = least_width item ∷ least_widths items

-- the bound on a sum: there is none where one of the parts has none
abbrev pub add_bounds : Option ℕ → Option ℕ → Option ℕ
add_bounds None n = None
add_bounds (Some m) None = None
add_bounds (Some m) (Some n) = Some (m + n)

-- the bound on either: there is none where one of the two has none
abbrev pub greater_bound : Option ℕ → Option ℕ → Option ℕ
greater_bound None n = None
greater_bound (Some m) None = None
greater_bound (Some m) (Some n) = Some (max m n)

-- The bound on copies of a body, from its width and from their number, which both may have no bound: 0 where there is
-- no copy, or every copy is empty.
abbrev pub repeated_bound : Option ℕ → Option ℕ → Option ℕ
repeated_bound (Some width) (Some copies) = Some (width * copies)
repeated_bound (Some zero) None = Some 0
repeated_bound (Some (suc width)) None = None
repeated_bound None (Some zero) = Some 0
repeated_bound None (Some (suc copies)) = None
repeated_bound None None = None

-- The greatest width: no span is longer. There is none where the length has no bound.
abbrev mutual
  pub greatest_width : Tree → Option ℕ
  greatest_width empty = Some 0
  greatest_width (class set) = Some 1
  greatest_width (points ranges) = Some longest_encoding
  greatest_width (assert assertion) = Some 0
  greatest_width (cat items) = fold add_bounds (Some 0) (greatest_widths items)
  greatest_width (alt items) = fold greater_bound (Some 0) (greatest_widths items)
  greatest_width (repeat body least greatest) = repeated_bound (greatest_width body) greatest

  pub greatest_widths : Trees → List (Option ℕ)
  greatest_widths none = []
  greatest_widths (more item items) = greatest_width item ∷ greatest_widths items

-- how often the body stands in a repeat that is written out: the last copy of one without bound goes round
abbrev pub written_copies : ℕ → Option ℕ → ℕ
written_copies least None = max least 1
written_copies least (Some greatest) = greatest

-- The positions: the places for a byte when every repeat is written out.
abbrev mutual
  pub positions : Tree → ℕ
  positions empty = 0
  positions (class set) = 1
  positions (points ranges) = 1
  positions (assert assertion) = 0
  positions (cat items) = sum (position_counts items)
  positions (alt items) = sum (position_counts items)
  positions (repeat body least greatest) = positions body * written_copies least greatest

  pub position_counts : Trees → List ℕ
  position_counts none = []
  position_counts (more item items) = positions item ∷ position_counts items

-- every span of the expression is as long as its widths say
pub record IsWithinWidths (t : Tree) : Type 0 where
  pub least : (w : List ℕ) (ended : Bool) (i j : ℕ) → Spans w ended t i j → i + least_width t ≤ j
  pub greatest : (w : List ℕ) (ended : Bool) (i j : ℕ) → Spans w ended t i j →
      IfSome (greatest_width t) (λ n. j ≤ i + n)
