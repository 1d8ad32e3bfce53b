-- What masks owe: the bit of a bucket is 0 wherever one of its literals ends.
use Rattle.std.specs.Prelude.{◌≡◌, ℕ, ◌+◌, ◌<◌, ◌≤◌, List, ◌++◌, Option, Some, All, length, take, slice_get}
use Rattle.std.specs.Prelude.{slice_index}
use Rattle.std.specs.Int.{bit_at}
use Rattle.hs_base.specs.Literals.{LiteralByte}
use Rattle.hs_base.specs.LiteralEnds.{EndsAt}
use Rattle.hs_fdr.specs.declared.tables.Tables.{Tables}
use Rattle.hs_fdr.specs.Masks.{mask_of, width_of}
use Rattle.hs_fdr.specs.Blocks.{block_masks}

-- no literal that ends at the offset is in a bucket whose bit is 1
abbrev pub HidesNone : (mask : ℕ) → List (List LiteralByte) → (buckets : List ℕ) → List ℕ → ℕ → Type 0
HidesNone mask literals buckets text offset =
    (number bucket : ℕ) (literal : List LiteralByte) → slice_get literals number ≡ Some literal →
    slice_get buckets number ≡ Some bucket → EndsAt literal text offset → bit_at mask bucket ≡ 0

-- the tables hide none in a block, whatever stands around it
abbrev pub TablesHideNone : Tables → List (List LiteralByte) → (buckets : List ℕ) → Type 0
TablesHideNone tables literals buckets =
    (earlier before block later : List ℕ) (next : Option ℕ) (i : ℕ) → All (λ b. b < 256) (before ++ block) → i < 64 →
    i < length block
    → HidesNone (slice_index (block_masks (mask_of tables) (width_of tables) before block next) i) literals buckets
    (earlier ++ (before ++ (block ++ later))) (length earlier + (length before + (i + 1)))

-- the masks of 64 places hide none that ends behind one of the bytes, from a place of the bytes on
abbrev pub MasksHideNone : (masks : List ℕ) → List (List LiteralByte) → (buckets history bytes : List ℕ) → (from : ℕ) →
    Type 0
MasksHideNone masks literals buckets history bytes from =
    (i : ℕ) → i < 64 → from + i < length bytes →
    HidesNone (slice_index masks i) literals buckets (history ++ bytes) (length history + (from + i + 1))

-- each literal has one of eight buckets
abbrev pub AreFew : List ℕ → Type 0
AreFew buckets = (number bucket : ℕ) → slice_get buckets number ≡ Some bucket → bucket < 8

-- up to seven bytes that stand right before a place
pub record StandsBefore (history bytes : List ℕ) (from : ℕ) (before : List ℕ) : Type 0 where
  pub earlier : List ℕ
  pub split : history ++ take from bytes ≡ earlier ++ before
  pub short : length before ≤ 7
