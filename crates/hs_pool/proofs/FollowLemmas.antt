-- Steps that are followed one by one.
use Rattle.std.proofs.Common.{◌≡◌, ℕ, suc, ◌+◌, ◌%◌, ◌<◌, ◌≤◌, ◌⊎◌, inl, inr, false, List, length, bit_and, slice_index, slice_set, zero, sym, ap, subst, ◌∙◌, arith, length-set}
use Rattle.std.proofs.lemmas.Bool.{cases_eq, cases_lt}
use Rattle.std.proofs.lemmas.List.{get_or-set_same, get_or-set_other}
use Rattle.std.proofs.lemmas.Nat.{and_mask}
use Rattle.hs_bits.specs.WordBits.{word_bit}
use Rattle.hs_pool.specs.Following.{AreFlagsAt, AreFollowed, FollowsTo, IsKnownRun, step_of}
use Rattle.hs_pool.specs.Following.{state_to}
use Rattle.hs_pool.specs.Rows.{AreLeading, IsSink, next_of, step_at, step_place}
use Rattle.hs_engine.specs.declared.ends.BlockEnds.{BlockEnds}
use Rattle.hs_pool.proofs.StepLemmas.{low-first, low-second, no-bit}

module _ (rows : List (List ℕ)) (first from enters : ℕ) (bytes start flags : List ℕ) (k step : ℕ)
    (is : step ≡ step_of rows first from enters bytes k) (room : from + k < length flags)
    (followed : AreFollowed rows first from enters bytes start flags k) where
  abbrev more : List ℕ
  more = slice_set flags (from + k) (bit_and step 255)

  own : (j : ℕ) → j < k + 1 → slice_index more (from + j) ≡ step_of rows first from enters bytes j % 256
  own j low = elim (cases_eq j k) [
    | inl same ↦
        let here : k ≡ j = sym same in
        subst (λ i. slice_index more (from + i) ≡ step_of rows first from enters bytes i % 256) here
        (get_or-set_same flags (from + k) (bit_and step 255) 0 room ∙ (and_mask step 8 ∙ ap (λ s. s % 256) is))
    | inr other ↦
        get_or-set_other flags (from + k) (from + j) (bit_and step 255) 0 (λ same. other (omega (arith, same)))
        ∙ followed.are j (omega (arith, low, other))
  ]

  -- one more is
  pub followed-more : AreFollowed rows first from enters bytes start more (k + 1)
  followed-more = record {
    len = length-set flags (from + k) (bit_and step 255) ∙ followed.len;
    are = own;
    others = λ i outside.
        get_or-set_other flags (from + k) i (bit_and step 255) 0 (λ same. elim outside [
          | inl low ↦ absurd (omega (arith, low, same))
          | inr high ↦ absurd (omega (arith, high, same))
        ])
        ∙ followed.others i (elim outside [ inl low ↦ inl low | inr high ↦ inr (omega (arith, high)) ]);
  }

-- where the flags that were followed tell all
pub known-run : (rows : List (List ℕ)) (first from enters : ℕ) (bytes zeros flags : List ℕ) (state : ℕ) (ends : BlockEnds) → ((i : ℕ) → slice_index zeros i ≡ 0) →
    from ≤ length bytes → length bytes ≤ 64 → (state ≡ 0 → ⊥) → FollowsTo rows first from enters bytes zeros flags state → AreFlagsAt flags 0 ends.before → AreFlagsAt flags 1 ends.behind →
    IsKnownRun rows first from enters bytes (record { state = state; ends = ends })
known-run rows first from enters bytes zeros flags state ends none within few some follows befores behinds = record {
  state_is = follows.last_is;
  some = some;
  before_is = λ k low.
      befores.below (from + k) (omega (arith, low, few))
      ∙ (ap (λ f. word_bit f 0) (follows.followed.are k (omega (arith, low))) ∙ low-first (step_of rows first from enters bytes k));
  behind_is = λ k low.
      behinds.below (from + k) (omega (arith, low, few))
      ∙ (ap (λ f. word_bit f 1) (follows.followed.are k (omega (arith, low))) ∙ low-second (step_of rows first from enters bytes k));
  before_others = others 0 ends.before befores;
  behind_others = others 1 ends.behind behinds;
} where
  others : (k word : ℕ) → AreFlagsAt flags k word → (i : ℕ) → (i < from) ⊎ (length bytes ≤ i) → word_bit word i ≡ false
  others k word flagged i outside = elim (cases_lt i 64) [
    | inl low ↦
        flagged.below i low
        ∙ (ap (λ f. word_bit f k) (follows.followed.others i (elim outside [ inl early ↦ inl early | inr late ↦ inr (omega (arith, late, within)) ]) ∙ none i) ∙ no-bit k)
    | inr high ↦ flagged.past i high
  ]

-- each state is there
pub state-low : (rows : List (List ℕ)) (count first from enters : ℕ) (bytes : List ℕ) → AreLeading rows count → first < count → (k : ℕ) → state_to rows first from enters bytes k < count
state-low rows count first from enters bytes leading low zero = low
state-low rows count first from enters bytes leading low (suc k) =
    leading (state_to rows first from enters bytes k) (step_place (word_bit enters (from + k)) (slice_index bytes (from + k))) (state-low rows count first from enters bytes leading low k)

-- behind a step that isn't known none is
pub sinks : (rows : List (List ℕ)) (first from enters : ℕ) (bytes : List ℕ) → IsSink rows → (k n : ℕ) → k ≤ n → state_to rows first from enters bytes k ≡ 0 → state_to rows first from enters bytes n ≡ 0
sinks rows first from enters bytes sink k zero low none =
    let here : k ≡ 0 = omega (arith, low) in
    subst (λ i. state_to rows first from enters bytes i ≡ 0) here none
sinks rows first from enters bytes sink k (suc n) low none = elim (cases_eq k (suc n)) [
  | inl same ↦ subst (λ i. state_to rows first from enters bytes i ≡ 0) same none
  | inr other ↦
      let before : state_to rows first from enters bytes n ≡ 0 = sinks rows first from enters bytes sink k n (omega (arith, low, other)) none in
      ap (λ s. next_of (step_at rows s (word_bit enters (from + n)) (slice_index bytes (from + n)))) before
      ∙ ap next_of (sink (step_place (word_bit enters (from + n)) (slice_index bytes (from + n))))
]
