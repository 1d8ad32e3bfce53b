-- The bits of two rows, word by word.
use Rattle.std.proofs.Common.{◌≡◌, ℕ, ◌+◌, ◌-◌, ◌*◌, ◌/◌, ◌%◌, ◌^◌, ◌<◌, ◌≤◌, Bool, true, false, ◌||◌, List, get_or, eqb, bit_or, Option, Some, None, refl, sym, ap, subst, ◌∙◌, inl, inr, arith}
use Rattle.std.specs.Prelude.{nat_lt, if◌then◌else◌}
use Rattle.std.specs.Int.{bit_at}
use Rattle.std.specs.Slice.Scan.{HoldsNowhere}
use Rattle.std.proofs.lemmas.Bool.{cases_lt, lt-ltb, le-ltb}
use Rattle.std.proofs.lemmas.Nat.Bits.{bit_at-zero, bit_at_above}
use Rattle.std.proofs.Math.Nat.{div-div-eq-div-mul}
use Rattle.std.proofs.lemmas.Nat.{pow-add, or_lt}
use Rattle.hs_base.proofs.ByteSetLemmas.{bit-or}
use Rattle.hs_base.specs.Bits.{has_word_bit}
use Rattle.hs_bits.specs.LowestBits.{IsLowestBit}
use Rattle.hs_bits.specs.NextBits.{is_in_either, IsNextBitIn}

-- the bits of a number without its lowest ones
shr-bit : (n s i : ℕ) → bit_at (n / 2 ^ s) i ≡ bit_at n (s + i)
shr-bit n s i = ap (λ m. m % 2) (div-div-eq-div-mul n (2 ^ s) (2 ^ i) ∙ ap (λ m. n / m) (sym (pow-add 2 s i)))

-- a bit of a word
pub word-bit : (words : List ℕ) (w i : ℕ) → i < 64 → has_word_bit words (64 * w + i) ≡ eqb (bit_at (get_or words w 0) i) 1
unfolding has_word_bit
word-bit words w i below =
    let word : (64 * w + i) / 64 ≡ w = omega arith in
    let bit : (64 * w + i) % 64 ≡ i = omega arith in
    ap (λ m. eqb (bit_at (get_or words m 0) ((64 * w + i) % 64)) 1) word ∙ ap (λ m. eqb (bit_at (get_or words w 0) m) 1) bit

-- a bit of either row
either-bit : (words row : List ℕ) (w i : ℕ) → i < 64 → is_in_either words row (64 * w + i) ≡ eqb (bit_at (bit_or (get_or words w 0) (get_or row w 0)) i) 1
either-bit words row w i below =
    ap (λ b. b || has_word_bit row (64 * w + i)) (word-bit words w i below)
    ∙ (ap (λ b. eqb (bit_at (get_or words w 0) i) 1 || b) (word-bit row w i below)
    ∙ sym (bit-or (get_or words w 0) (get_or row w 0) i))

module _ (words row : List ℕ) (w s rest : ℕ) (low : s < 64) (is : rest ≡ bit_or (get_or words w 0) (get_or row w 0) / 2 ^ s) where
  rest-bit : (i : ℕ) → s + i < 64 → is_in_either words row ((64 * w + s) + i) ≡ eqb (bit_at rest i) 1
  rest-bit i below =
      let place : (64 * w + s) + i ≡ 64 * w + (s + i) = omega arith in
      ap (is_in_either words row) place
      ∙ (either-bit words row w (s + i) below
      ∙ (ap (λ n. eqb n 1) (sym (shr-bit (bit_or (get_or words w 0) (get_or row w 0)) s i))
      ∙ ap (λ n. eqb (bit_at n i) 1) (sym is)))

  -- where no bit is left in the word, none is set up to the next one
  pub none-left : rest ≡ 0 → HoldsNowhere (is_in_either words row) (64 * w + s) (64 * (w + 1))
  none-left empty k above below =
      let i : ℕ = k - (64 * w + s) in
      let place : (64 * w + s) + i ≡ k = omega arith in
      ap (is_in_either words row) (sym place)
      ∙ (rest-bit i (omega arith)
      ∙ (ap (λ n. eqb (bit_at n i) 1) empty ∙ ap (λ n. eqb n 1) (bit_at-zero i)))

  -- else the lowest is the first
  module _ (place : ℕ) (lowest : IsLowestBit rest place) (small : bit_or (get_or words w 0) (get_or row w 0) < 2 ^ 64) where
    within : s + place < 64
    within =
        elim (cases_lt (s + place) 64) [
          | inl below ↦ below
          | inr above ↦
              let high : bit_at (bit_or (get_or words w 0) (get_or row w 0)) (s + place) ≡ 0 = bit_at_above (bit_or (get_or words w 0) (get_or row w 0)) 64 (s + place) small above in
              let set : bit_at rest place ≡ 1 = lowest.is in
              let same : bit_at rest place ≡ bit_at (bit_or (get_or words w 0) (get_or row w 0)) (s + place) =
              ap (λ n. bit_at n place) is ∙ shr-bit (bit_or (get_or words w 0) (get_or row w 0)) s place in
              absurd (omega arith)
        ]

    first-is : is_in_either words row ((64 * w + s) + place) ≡ true
    first-is = rest-bit place within ∙ ap (λ n. eqb n 1) lowest.is

    first-least : HoldsNowhere (is_in_either words row) (64 * w + s) ((64 * w + s) + place)
    first-least k above below =
        let i : ℕ = k - (64 * w + s) in
        let there : (64 * w + s) + i ≡ k = omega arith in
        ap (is_in_either words row) (sym there)
        ∙ (rest-bit i (omega (arith, within))
        ∙ ap (λ n. eqb n 1) (lowest.lowest i (omega arith)))

-- none, and then none
pub nowhere-join : (test : ℕ → Bool) (a b c : ℕ) → HoldsNowhere test a b → HoldsNowhere test b c → HoldsNowhere test a c
nowhere-join test a b c first second k above below = elim (cases_lt k b) [ inl before ↦ first k above before | inr behind ↦ second k behind below ]

-- none, and then one
pub next-join : (test : ℕ → Bool) (from middle end : ℕ) (next : Option ℕ) → from ≤ middle → HoldsNowhere test from middle → IsNextBitIn test middle end next → IsNextBitIn test from end next
next-join test from middle end None order none rest = nowhere-join test from middle end none rest
next-join test from middle end (Some k) order none next = record {
  low = omega (arith, next.low);
  high = next.high;
  is = next.is;
  least = nowhere-join test from middle k none next.least;
}

-- the first one is the next one, if it stands before the end
next-before : (test : ℕ → Bool) (from end k : ℕ) → from ≤ k → test k ≡ true → HoldsNowhere test from k → IsNextBitIn test from end (if nat_lt k end then Some k else None)
next-before test from end k low is least = elim (cases_lt k end) [
  | inl below ↦ rw (lt-ltb k end below) (record { low = low; high = below; is = is; least = least })
  | inr above ↦ rw (le-ltb k end above) (λ j from_j below. least j from_j (omega arith))
]

-- the lowest bit that is left in a word
pub next-in_word : (words row : List ℕ) (from w s rest place end : ℕ) → s < 64 → rest ≡ bit_or (get_or words w 0) (get_or row w 0) / 2 ^ s → IsLowestBit rest place →
    get_or words w 0 < 2 ^ 64 → get_or row w 0 < 2 ^ 64 → from ≤ 64 * w + s → HoldsNowhere (is_in_either words row) from (64 * w + s) →
    (k : ℕ) → k ≡ (64 * w + s) + place → IsNextBitIn (is_in_either words row) from end (if nat_lt k end then Some k else None)
next-in_word words row from w s rest place end low is lowest fits row_fits order none k at =
    let test : ℕ → Bool = is_in_either words row in
    let small : bit_or (get_or words w 0) (get_or row w 0) < 2 ^ 64 = or_lt 64 (get_or words w 0) (get_or row w 0) fits row_fits in
    let found : test k ≡ true = ap test at ∙ first-is words row w s rest low is place lowest small in
    let least : HoldsNowhere test (64 * w + s) k = subst (HoldsNowhere test (64 * w + s)) (sym at) (first-least words row w s rest low is place lowest small) in
    next-before test from end k (omega arith) found (nowhere-join test from (64 * w + s) k none least)

-- one row beside itself
either-same : (b : Bool) → (b || b) ≡ b
either-same true = refl
either-same false = refl

pub next-same : (words : List ℕ) (from end : ℕ) (next : Option ℕ) → IsNextBitIn (is_in_either words words) from end next → IsNextBitIn (has_word_bit words) from end next
next-same words from end None none = λ k above below. sym (either-same (has_word_bit words k)) ∙ none k above below
next-same words from end (Some k) next = record {
  low = next.low;
  high = next.high;
  is = sym (either-same (has_word_bit words k)) ∙ next.is;
  least = λ j above below. sym (either-same (has_word_bit words j)) ∙ next.least j above below;
}
