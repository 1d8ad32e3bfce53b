-- The spans of an expression: from which offset to which offset of a stream it matches.
use Rattle.std.specs.Prelude.{◌≡◌, ℕ, zero, suc, ◌+◌, ◌<◌, ◌≤◌, ◌⊎◌, Bool, true, List, length, take, drop, Some, IfSome}
use Rattle.std.specs.Prelude.{slice_get, encode_utf8}
use Rattle.hs_base.specs.Lists.{OneOf}
use Rattle.hs_base.specs.Trees.{Tree, Trees, empty, class, points, assert, cat, alt, repeat, none, more}
use Rattle.hs_base.specs.Assertions.{Holds}

-- the byte at an offset is there, and is a member of the set
abbrev pub IsByteOf : List Bool → List ℕ → ℕ → Type 0
IsByteOf set w i = (b : ℕ) × (slice_get w i ≡ Some b) × (slice_get set b ≡ Some true)

-- these bytes stand at the offset
pub record HasBytesAt (w : List ℕ) (i : ℕ) (bytes : List ℕ) : Type 0 where
  pub within : i + length bytes ≤ length w
  pub same : take (length bytes) (drop i w) ≡ bytes

-- a code point has an encoding: it is no surrogate (The Unicode Standard, "Unicode Encoding Forms")
abbrev pub IsScalarValue : ℕ → Type 0
IsScalarValue c = (c < 0xD800) ⊎ ((0xE000 ≤ c) × (c < 0x110000))

-- the code point lies in a range
abbrev pub IsInRange : ℕ → ℕ × ℕ → Type 0
IsInRange c (first, last) = (first ≤ c) × (c ≤ last)

-- from i to j stands the well-formed encoding of a code point of the ranges
pub record IsPointOf (ranges : List (ℕ × ℕ)) (w : List ℕ) (i j : ℕ) : Type 0 where
  pub code_point : ℕ
  pub scalar : IsScalarValue code_point
  pub member : OneOf (IsInRange code_point) ranges
  pub bytes : HasBytesAt w i (encode_utf8 code_point)
  pub end : j ≡ i + length (encode_utf8 code_point)

-- n spans in a row lead from i to j
abbrev pub Copies : (ℕ → ℕ → Type 0) → ℕ → ℕ → ℕ → Type 0
Copies R zero i j = i ≡ j
Copies R (suc n) i j = (m : ℕ) × R i m × Copies R n m j

-- The expression has a span from i to j in the stream w.
abbrev mutual
  pub Spans : List ℕ → Bool → Tree → ℕ → ℕ → Type 0
  Spans w ended empty i j = i ≡ j
  Spans w ended (class set) i j = IsByteOf set w i × (j ≡ i + 1)
  Spans w ended (points ranges) i j = IsPointOf ranges w i j
  Spans w ended (assert assertion) i j = (i ≡ j) × Holds w ended assertion i
  Spans w ended (cat items) i j = CatSpans w ended items i j
  Spans w ended (alt items) i j = AltSpans w ended items i j
  Spans w ended (repeat body least greatest) i j =
      (n : ℕ) × (least ≤ n) × IfSome greatest (λ m. n ≤ m) × Copies (Spans w ended body) n i j

  -- the items have spans one after the other
  pub CatSpans : List ℕ → Bool → Trees → ℕ → ℕ → Type 0
  CatSpans w ended none i j = i ≡ j
  CatSpans w ended (more item items) i j = (m : ℕ) × Spans w ended item i m × CatSpans w ended items m j

  -- one of the alternatives has the span
  pub AltSpans : List ℕ → Bool → Trees → ℕ → ℕ → Type 0
  AltSpans w ended none i j = ⊥
  AltSpans w ended (more item items) i j = Spans w ended item i j ⊎ AltSpans w ended items i j
