-- The pairs of a block: equal values give equal pairs, places where nothing is told give none, and the walk over places.
use Rattle.std.proofs.Common.{◌≡◌, ℕ, zero, suc, ◌+◌, ◌<◌, ◌≤◌, Bool, false, List, [], ◌++◌, length, refl, sym, ap, subst, ◌∙◌, inl, inr, arith}
use Rattle.std.proofs.lemmas.Bool.{both_ways, cases_lt}
use Rattle.std.proofs.lemmas.List.{append-nil, same_lists, length-map}
use Rattle.std.proofs.lemmas.List.FromFn.{length-range_with_len}
use Rattle.std.proofs.lemmas.Option.{get_or_from_slice_get, slice_get_within}
use Rattle.std.specs.List.{range_with_len}
use Rattle.hs_base.specs.Patterns.{Pattern}
use Rattle.hs_base.specs.Told.{Pair, IsTold, IsNew}
use Rattle.hs_base.specs.Settling.{Kept, Ends, pairs_told}
use Rattle.hs_base.proofs.PairListLemmas.{values_by, value-at, tell-by, pairs-of_none}
use Rattle.hs_reports.specs.Chunks.{late_at, early_at, pairs_where, chunk_pairs, pairs_of_chunk, AreChunkOf}
use Rattle.hs_reports.specs.Telling.{AreBlockWords}
use Rattle.hs_reports.specs.WordBits.{row_bit}
use Rattle.hs_reports.proofs.ChunkLemmas.{IsChunkOf, chunk-is, chunk-new_but_spent}

-- values that are the same for each identifier
values-same : (f g : ℕ → Bool) (n : ℕ) → ((k : ℕ) → k < n → f k ≡ g k) → values_by f n ≡ values_by g n
values-same f g n same =
    same_lists (values_by f n) (values_by g n) (count f ∙ sym (count g))
    (λ k d below.
    let within : k < n = omega (arith, count f) in
    get_or_from_slice_get (values_by f n) k (f k) d (value-at f n k within)
    ∙ (same k within ∙ sym (get_or_from_slice_get (values_by g n) k (g k) d (value-at g n k within))))
  where
    count : (h : ℕ → Bool) → length (values_by h n) ≡ n
    count h = length-map (range_with_len 0 n) h ∙ length-range_with_len 0 n

pub where-same : (ids : List ℕ) (f g : ℕ → Bool) (to : ℕ) → ((k : ℕ) → k < length ids → f k ≡ g k) → pairs_where ids f to ≡ pairs_where ids g to
where-same ids f g to same = ap (λ values. pairs_told ids values to) (values-same f g (length ids) same)

pub where-none : (ids : List ℕ) (f : ℕ → Bool) (to : ℕ) → ((k : ℕ) → k < length ids → f k ≡ false) → pairs_where ids f to ≡ []
where-none ids f to none =
    pairs-of_none ids (values_by f (length ids)) (λ id. ⊥) to
    (tell-by ids f (λ id. ⊥) (λ k id named. (
      λ told. both_ways (f k) (none k (slice_get_within ids k id named)) told,
      λ never. absurd never,
    )))
    (λ id never. never)

chunk-same : (ids : List ℕ) (late early late' early' : ℕ → ℕ → Bool) (at n : ℕ) → ((k i : ℕ) → k < length ids → i < n → (late k i ≡ late' k i) × (early k i ≡ early' k i)) →
    chunk_pairs ids late early at n ≡ chunk_pairs ids late' early' at n
unfolding chunk_pairs
chunk-same ids late early late' early' at zero same = refl
chunk-same ids late early late' early' at (suc n) same =
    ap (λ ps. ps ++ (pairs_where ids (λ k. late k n) (at + n) ++ pairs_where ids (λ k. early k n) (at + n + 1)))
    (chunk-same ids late early late' early' at n (λ k i within below. same k i within (omega arith)))
    ∙ (ap (λ ps. chunk_pairs ids late' early' at n ++ (ps ++ pairs_where ids (λ k. early k n) (at + n + 1)))
    (where-same ids (λ k. late k n) (λ k. late' k n) (at + n) (λ k within. (same k n within (omega arith)).0))
    ∙ ap (λ ps. chunk_pairs ids late' early' at n ++ (pairs_where ids (λ k. late' k n) (at + n) ++ ps))
    (where-same ids (λ k. early k n) (λ k. early' k n) (at + n + 1) (λ k within. (same k n within (omega arith)).1)))

pub chunk-none : (ids : List ℕ) (late early : ℕ → ℕ → Bool) (at : ℕ) → chunk_pairs ids late early at 0 ≡ []
unfolding chunk_pairs
chunk-none ids late early at = refl

pub chunk-next : (ids : List ℕ) (late early : ℕ → ℕ → Bool) (at i : ℕ) →
    chunk_pairs ids late early at (i + 1) ≡ chunk_pairs ids late early at i ++ (pairs_where ids (λ k. late k i) (at + i) ++ pairs_where ids (λ k. early k i) (at + i + 1))
unfolding chunk_pairs
chunk-next ids late early at i = let next : i + 1 ≡ suc i = omega arith in ap (λ n. chunk_pairs ids late early at n) next

-- over places where nothing is told
pub chunk-passed : (ids : List ℕ) (late early : ℕ → ℕ → Bool) (at m n : ℕ) → m ≤ n → ((i k : ℕ) → m ≤ i → i < n → k < length ids → (late k i ≡ false) × (early k i ≡ false)) →
    chunk_pairs ids late early at n ≡ chunk_pairs ids late early at m
unfolding chunk_pairs
chunk-passed ids late early at m zero within none = let here : m ≡ 0 = omega arith in ap (λ n. chunk_pairs ids late early at n) (sym here)
chunk-passed ids late early at m (suc n) within none = elim (cases_lt n m) [
  | inl above ↦ let here : m ≡ suc n = omega arith in ap (λ k. chunk_pairs ids late early at k) (sym here)
  | inr below ↦
      ap (λ ps. chunk_pairs ids late early at n ++ (ps ++ pairs_where ids (λ k. early k n) (at + n + 1)))
      (where-none ids (λ k. late k n) (at + n) (λ k inside. (none n k below (omega arith) inside).0))
      ∙ (ap (λ ps. chunk_pairs ids late early at n ++ ps)
      (where-none ids (λ k. early k n) (at + n + 1) (λ k inside. (none n k below (omega arith) inside).1))
      ∙ (append-nil (chunk_pairs ids late early at n)
      ∙ chunk-passed ids late early at m n below (λ i k above under inside. none i k above (omega arith) inside)))
]

-- what the words of a block tell are its new reports
pub block-new_but_spent : (P : List Pattern) (u bytes ids : List ℕ) (single : ℕ → Bool) (old : ℕ → Kept) (ends : ℕ → ℕ → Ends) (lates earlies : List ℕ) (told : List Pair) → length bytes ≤ 64 →
    IsChunkOf P u bytes ids single old ends → AreBlockWords ids single old ends lates earlies → IsTold P u told → IsNew P u bytes (chunk_pairs ids (row_bit lates) (row_bit earlies) (length u) (length bytes))
block-new_but_spent P u bytes ids single old ends lates earlies told few chunk are is =
    subst (IsNew P u bytes) (sym same) (chunk-new_but_spent P u bytes ids single old ends told chunk is)
  where
    same : chunk_pairs ids (row_bit lates) (row_bit earlies) (length u) (length bytes) ≡ pairs_of_chunk ids single old ends (length u) (length bytes)
    same =
        chunk-same ids (row_bit lates) (row_bit earlies) (λ k. late_at (single k) (old k) (ends k)) (λ k. early_at (single k) (old k) (ends k)) (length u) (length bytes)
        (λ k i inside below. ((are k inside).late_is i (omega arith), (are k inside).early_is i (omega arith)))

pub block-new : (P : List Pattern) (u bytes ids : List ℕ) (single : ℕ → Bool) (old : ℕ → Kept) (ends : ℕ → ℕ → Ends) (lates earlies : List ℕ) (told : List Pair) → length bytes ≤ 64 →
    AreChunkOf P u bytes ids single old ends → AreBlockWords ids single old ends lates earlies → IsTold P u told → IsNew P u bytes (chunk_pairs ids (row_bit lates) (row_bit earlies) (length u) (length bytes))
block-new P u bytes ids single old ends lates earlies told few chunk are is =
    block-new_but_spent P u bytes ids single old ends lates earlies told few (chunk-is P u bytes ids single old ends chunk) are is
