-- What bytes in a row tell, by place: which pairs each byte decides, and what is known of an identifier behind it.
use Rattle.std.specs.Prelude.{◌≡◌, ℕ, zero, suc, ◌+◌, ◌<◌, Bool, List, [], ◌∷◌, ◌++◌}
use Rattle.std.specs.Prelude.{length, map, take, Some, slice_get, slice_index}
use Rattle.std.specs.List.{range_with_len}
use Rattle.hs_base.specs.declared.context.Next.TheVariants as after
use Rattle.hs_base.specs.Contexts.{class_of}
use Rattle.hs_base.specs.Lists.{IsMember}
use Rattle.hs_base.specs.Patterns.{Pattern, is_single}
use Rattle.hs_base.specs.Told.{Pair}
use Rattle.hs_base.specs.Settling.{HasEndHere, Kept, Ends, tells_before, tells_behind, settled, pairs_told, AreRising}
use Rattle.hs_reports.specs.Heard.{IsHeard, AreSureEnds}

-- Of one identifier: its ends about each byte, by place.

-- what is known of it behind the first so many bytes
abbrev pub kept_behind : (single : Bool) → Kept → (ends : ℕ → Ends) → ℕ → Kept
kept_behind single kept ends zero = kept
kept_behind single kept ends (suc i) = settled single (kept_behind single kept ends i) (ends i)

-- the byte of that place decides its pair that ends before it
abbrev pub late_at : (single : Bool) → Kept → (ends : ℕ → Ends) → ℕ → Bool
late_at single kept ends i = tells_before single (kept_behind single kept ends i) (ends i)

-- the byte of that place decides its pair that ends behind it
abbrev pub early_at : (single : Bool) → Kept → (ends : ℕ → Ends) → ℕ → Bool
early_at single kept ends i = tells_behind single (kept_behind single kept ends i) (ends i)

-- Of many identifiers: a truth value for each number of one, by place.

-- the pairs with that end of those identifiers for whose number the value is true
abbrev pub pairs_where : (ids : List ℕ) → (ℕ → Bool) → (to : ℕ) → List Pair
pairs_where ids told to = pairs_told ids (map told (range_with_len 0 (length ids))) to

-- The pairs that the first so many bytes behind an offset decide, byte by byte: first those that end before the byte,
-- then those that end behind it, each by identifier.
unfoldable pub chunk_pairs : (ids : List ℕ) → (late early : ℕ → ℕ → Bool) → (at : ℕ) → ℕ → List Pair
chunk_pairs ids late early at zero = []
chunk_pairs ids late early at (suc i) =
    chunk_pairs ids late early at i
    ++ (pairs_where ids (λ k. late k i) (at + i) ++ pairs_where ids (λ k. early k i) (at + i + 1))

-- the same of what is known of each identifier at first, and its ends, by number
abbrev pub pairs_of_chunk : (ids : List ℕ) → (single : ℕ → Bool) → (old : ℕ → Kept) → (ends : ℕ → ℕ → Ends) →
    (at count : ℕ) → List Pair
pairs_of_chunk ids single old ends at count =
    chunk_pairs ids (λ k. late_at (single k) (old k) (ends k)) (λ k. early_at (single k) (old k) (ends k)) at count

-- those are the ends of the identifier about each of the bytes behind u, by place
abbrev pub AreChunkEnds : List Pattern → (u bytes : List ℕ) → (id : ℕ) → (ℕ → Ends) → Type 0
AreChunkEnds P u bytes id ends =
    (i : ℕ) → i < length bytes → AreSureEnds P (u ++ take i bytes) (slice_index bytes i) id (ends i)

-- Each identifier that has an end about one of the bytes behind u is one of these, which rise.
pub record AreConcerned (P : List Pattern) (u bytes ids : List ℕ) : Type 0 where
  pub rising : AreRising ids
  pub before : (i id : ℕ) → i < length bytes →
      HasEndHere P id (u ++ take i bytes) (class_of (slice_index bytes i)) →
      IsMember id ids
  pub behind : (i id : ℕ) → i < length bytes →
      HasEndHere P id (u ++ take i bytes ++ slice_index bytes i ∷ []) after.Unknown →
      IsMember id ids

-- These identifiers are concerned by the bytes behind u, and that is what is known of each, by its number: whether it
-- is single, what is known of it behind u, and its ends about each byte.
pub record AreChunkOf (P : List Pattern) (u bytes ids : List ℕ) (single : ℕ → Bool) (old : ℕ → Kept)
    (ends : ℕ → ℕ → Ends) : Type 0 where
  pub concerned : AreConcerned P u bytes ids
  pub singles : (k id : ℕ) → slice_get ids k ≡ Some id → is_single P id ≡ single k
  pub heard : (k id : ℕ) → slice_get ids k ≡ Some id → IsHeard P u id (old k)
  pub ends_are : (k id : ℕ) → slice_get ids k ≡ Some id → AreChunkEnds P u bytes id (ends k)

-- the pairs of the first so many blocks, by number of a block
abbrev pub pairs_of_blocks : (ℕ → List Pair) → ℕ → List Pair
pairs_of_blocks pairs zero = []
pairs_of_blocks pairs (suc j) = pairs_of_blocks pairs j ++ pairs j
