-- Literals that are found by their keys.
use Rattle.std.specs.Prelude.{◌≡◌, ℕ, List, map, Option, Some, MatchOption, slice_get}
use Rattle.std.specs.BTreeMap.{get_by}
use Rattle.std.specs.Cmp.Lexicographic.{slice_cmp}
use Rattle.std.specs.Ordering.{nat_cmp}
use Rattle.hs_base.specs.LiteralView.{literal_bytes}
use Rattle.hs_base.specs.Literals.{LiteralByte}
use Rattle.hs_rose.specs.declared.literal_index.LiteralIndex.{LiteralIndex}
use Rattle.hs_rose.specs.Keys.{key_of}
use Rattle.hs_rose.specs.Numbering.{IsNew}

-- the number that is kept for the key
abbrev pub number_at : LiteralIndex → (key : List ℕ) → Option ℕ
number_at index key = get_by (λ k. slice_cmp nat_cmp key k.items) index.numbers

-- the number stands for the literal, and where there is none the literal is new
abbrev pub IsPlaceOfLiteral : List (List LiteralByte) → List LiteralByte → Option ℕ → Type 0
IsPlaceOfLiteral literals xs place = MatchOption place (IsNew literals xs) (λ k. slice_get literals k ≡ Some xs)

-- Of each literal that stands there its place is kept, and of no other anything.
pub record IsIndexed (index : LiteralIndex) : Type 0 where
  pub places : (xs : List LiteralByte) →
      IsPlaceOfLiteral (map literal_bytes index.list.items) xs (number_at index (key_of xs))
