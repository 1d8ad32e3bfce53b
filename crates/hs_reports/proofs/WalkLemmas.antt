-- The walk over the places of a block.
use Rattle.std.proofs.Common.{◌≡◌, ℕ, ◌+◌, ◌<◌, ◌≤◌, Bool, true, false, ◌&&◌, List, length, take, get_or, Some, slice_get, bit_and, bit_or, eqb, leb, sym, ap, subst, ◌∙◌, inl, inr, arith}
use Rattle.std.proofs.lemmas.Bool.{both_ways, cases_lt, cases_eq, le-leb, lt-leb, or_parts}
use Rattle.std.proofs.lemmas.List.{get_or_past, length-map}
use Rattle.std.proofs.lemmas.Option.{slice_get-map}
use Rattle.std.specs.Prelude.{option_map}
use Rattle.hs_base.specs.declared.entry.ExprId.{ExprId}
use Rattle.hs_base.specs.Settling.{pairs_told}
use Rattle.hs_base.proofs.PairListLemmas.{one_told, values_by, pairs-next_by, pairs-all}
use Rattle.hs_bits.specs.LowestBits.{IsLowestBit, AreBitsBehind}
use Rattle.hs_bits.proofs.LowestLemmas.{lowest-gone, others-stay}
use Rattle.hs_bits.proofs.WordLemmas.{and-none, and-true}
use Rattle.hs_reports.specs.Chunks.{pairs_where, chunk_pairs}
use Rattle.hs_reports.specs.Events.{Through}
use Rattle.hs_reports.specs.Identifiers.{id_numbers}
use Rattle.hs_reports.specs.WordBits.{word_bit, row_bit}
use Rattle.hs_reports.proofs.BlockLemmas.{chunk-passed, chunk-next}
use Rattle.hs_reports.proofs.EventLemmas.{through-join}
use Rattle.hs_reports.proofs.WordBitLemmas.{bit-and, bit-is, bit-or, bit-zero}

-- Of the first n places those before m are gone from the word that is left, and where another is, no word has a bit. The
-- word has no other place.
pub record IsWalked (lates earlies : List ℕ) (n left m : ℕ) : Type 0 where
  pub within : m ≤ n
  pub before : (i : ℕ) → i < m → word_bit left i ≡ false
  pub from : (i : ℕ) → m ≤ i → i < n → word_bit left i ≡ false → (k : ℕ) →
      (row_bit lates k i ≡ false) × (row_bit earlies k i ≡ false)
  pub behind : (i : ℕ) → n ≤ i → i < 64 → word_bit left i ≡ false

-- at first all places up to the last one that aren't in the word have nothing
pub walked-none : (lates earlies : List ℕ) (late early low last : ℕ) → last < 64 →
    ((i : ℕ) → word_bit late i ≡ false → (k : ℕ) → row_bit lates k i ≡ false) → ((i : ℕ) → word_bit early i ≡ false → (k : ℕ) → row_bit earlies k i ≡ false) →
    ((i : ℕ) → i < 64 → word_bit low i ≡ leb i last) → IsWalked lates earlies (last + 1) (bit_and (bit_or late early) low) 0
walked-none lates earlies late early low last small none none' lows = record {
  within = omega arith;
  before = λ i below. absurd (omega arith);
  from = λ i above below clear k.
      let inside : word_bit low i ≡ true = lows i (omega arith) ∙ le-leb i last (omega arith) in
      let none-here : word_bit (bit_or late early) i ≡ false = sym (and-true (word_bit (bit_or late early) i)) ∙ (ap (λ b. word_bit (bit_or late early) i && b) (sym inside) ∙ (sym (bit-and (bit_or late early) low i) ∙ clear)) in
      let (left, right) = or_parts (word_bit late i) (word_bit early i) (sym (bit-or late early i) ∙ none-here) in
      (none i left k, none' i right k);
  behind = λ i above below.
      bit-and (bit_or late early) low i ∙ (ap (λ b. word_bit (bit_or late early) i && b) (lows i below ∙ lt-leb i last (omega arith)) ∙ and-none (word_bit (bit_or late early) i));
}

module _ (lates earlies : List ℕ) (n left m p : ℕ) (walked : IsWalked lates earlies n left m) (low : IsLowestBit left p) where
  set-there : word_bit left p ≡ true
  set-there = bit-is left p ∙ ap (λ n. eqb n 1) low.is

  ahead : m ≤ p
  ahead = elim (cases_lt p m) [
    | inl below ↦ absurd (both_ways (word_bit left p) (walked.before p below) set-there)
    | inr above ↦ above
  ]

  inside : p < 64 → p < n
  inside small = elim (cases_lt p n) [
    | inl below ↦ below
    | inr past ↦ absurd (both_ways (word_bit left p) (walked.behind p past small) set-there)
  ]

  clear-before : (i : ℕ) → i < p → word_bit left i ≡ false
  clear-before i below = bit-is left i ∙ ap (λ n. eqb n 1) (low.lowest i below)

  pub walked-next : (rest : ℕ) → p < 64 → AreBitsBehind left p rest → IsWalked lates earlies n rest (p + 1)
  walked-next rest small behind = record {
    within = let there : p < n = inside small in omega (arith, there);
    before = λ i below. elim (cases_eq i p) [
      | inl same ↦ ap (λ n. word_bit rest n) same ∙ (bit-is rest p ∙ ap (λ n. eqb n 1) (lowest-gone left p rest behind))
      | inr apart ↦ stays i apart ∙ clear-before i (omega arith)
    ];
    from = λ i above below clear k. walked.from i (omega (arith, ahead)) below (sym (stays i (λ same. omega arith)) ∙ clear) k;
    behind = λ i above below. stays i (λ same. omega (arith, inside small)) ∙ walked.behind i above below;
  }
    where
      stays : (i : ℕ) → (i ≡ p → ⊥) → word_bit rest i ≡ word_bit left i
      stays i apart = bit-is rest i ∙ (ap (λ n. eqb n 1) (others-stay left p rest low behind i apart) ∙ sym (bit-is left i))

  -- up to the lowest place that is left, what was told is all
  pub told-up : (ids : List ℕ) (at : ℕ) → p < 64 → chunk_pairs ids (row_bit lates) (row_bit earlies) at p ≡ chunk_pairs ids (row_bit lates) (row_bit earlies) at m
  told-up ids at small =
      chunk-passed ids (row_bit lates) (row_bit earlies) at m p ahead
      (λ i k above below named. walked.from i above (omega (arith, inside small)) (clear-before i below) k)

-- where no place is left, all is told
pub told-all : (lates earlies ids : List ℕ) (at n left m : ℕ) → IsWalked lates earlies n left m → left ≡ 0 → chunk_pairs ids (row_bit lates) (row_bit earlies) at n ≡ chunk_pairs ids (row_bit lates) (row_bit earlies) at m
told-all lates earlies ids at n left m walked none =
    chunk-passed ids (row_bit lates) (row_bit earlies) at m n walked.within
    (λ i k above below inside. walked.from i above below (ap (λ w. word_bit w i) none ∙ bit-zero i) k)

-- the place and its pairs, in the order in which they are reported
pub through-place : {V : Type 0} (Tells : V → ℕ → ℕ → V → Type 0) {start before between after : V} (lates earlies ids : List ℕ) (at n left m p : ℕ) → IsWalked lates earlies n left m → IsLowestBit left p → p < 64 →
    Through Tells start (chunk_pairs ids (row_bit lates) (row_bit earlies) at m) before →
    Through Tells before (pairs_where ids (λ k. row_bit lates k p) (at + p)) between →
    Through Tells between (pairs_where ids (λ k. row_bit earlies k p) (at + p + 1)) after →
    Through Tells start (chunk_pairs ids (row_bit lates) (row_bit earlies) at (p + 1)) after
through-place Tells {start} {before} {between} {after} lates earlies ids at n left m p walked low small told late early =
    subst (λ ps. Through Tells start ps after) (sym (chunk-next ids (row_bit lates) (row_bit earlies) at p))
    (through-join Tells
    (subst (λ ps. Through Tells start ps before) (sym (told-up lates earlies n left m p walked low ids at small)) told)
    (through-join Tells late early))

-- the bits of so many words together

pub united-more : (words : List ℕ) (all n : ℕ) → ((i : ℕ) → word_bit all i ≡ false → (k : ℕ) → k < n → row_bit words k i ≡ false) →
    (i : ℕ) → word_bit (bit_or all (get_or words n 0)) i ≡ false → (k : ℕ) → k < n + 1 → row_bit words k i ≡ false
united-more words all n none i clear k below =
    let (left, right) = or_parts (word_bit all i) (word_bit (get_or words n 0) i) (sym (bit-or all (get_or words n 0) i) ∙ clear) in
    elim (cases_eq k n) [
      | inl same ↦ ap (λ j. row_bit words j i) same ∙ right
      | inr apart ↦ none i left k (omega arith)
    ]

pub united-all : (words : List ℕ) (all n : ℕ) → length words ≤ n → ((i : ℕ) → word_bit all i ≡ false → (k : ℕ) → k < n → row_bit words k i ≡ false) →
    (i : ℕ) → word_bit all i ≡ false → (k : ℕ) → row_bit words k i ≡ false
united-all words all n whole none i clear k = elim (cases_lt k n) [
  | inl below ↦ none i clear k below
  | inr past ↦ ap (λ w. word_bit w i) (get_or_past words k 0 (omega arith)) ∙ bit-zero i
]

-- one identifier more at a place
pub through-next : {V : Type 0} (Tells : V → ℕ → ℕ → V → Type 0) {start before after : V} (ids : List ExprId) (f : ℕ → Bool) (to k : ℕ) (id : ExprId) (value : Bool) →
    slice_get ids k ≡ Some id → value ≡ f k → Through Tells start (pairs_told (take k (id_numbers ids)) (values_by f (length (id_numbers ids))) to) before → Through Tells before (one_told value id.0 to) after →
    Through Tells start (pairs_told (take (k + 1) (id_numbers ids)) (values_by f (length (id_numbers ids))) to) after
through-next Tells {start} {before} {after} ids f to k id value named is told one =
    subst (λ ps. Through Tells start ps after)
    (sym (pairs-next_by (id_numbers ids) f to k id.0 (slice_get-map (λ x. x.0) ids k ∙ ap (option_map (λ x. x.0)) named)))
    (through-join Tells told (subst (λ v. Through Tells before (one_told v id.0 to) after) is one))

pub through-all : {V : Type 0} (Tells : V → ℕ → ℕ → V → Type 0) {start after : V} (ids : List ExprId) (f : ℕ → Bool) (to k : ℕ) → length ids ≤ k →
    Through Tells start (pairs_told (take k (id_numbers ids)) (values_by f (length (id_numbers ids))) to) after → Through Tells start (pairs_where (id_numbers ids) f to) after
through-all Tells {start} {after} ids f to k whole told =
    subst (λ ps. Through Tells start ps after)
    (pairs-all (id_numbers ids) (values_by f (length (id_numbers ids))) to k (omega (arith, length-map ids (λ x. x.0)))) told
