-- Bits of a row by ranges of places.
use Rattle.std.proofs.Common.{◌≡◌, ℕ, zero, suc, ◌+◌, ◌-◌, ◌*◌, ◌/◌, ◌%◌, ◌^◌, ◌<◌, ◌≤◌, Bool, true, false, List, length, get_or, set, eqb, refl, sym, ap, subst, ◌∙◌, inl, inr, arith, w8}
use Rattle.std.specs.Prelude.{◌⊎◌, if◌then◌else◌}
use Rattle.std.specs.Int.{bit_at, trailing_zeros}
use Rattle.std.specs.Int.RustNames.{bit_xor}
use Rattle.std.proofs.lemmas.Bool.{cases_eq, cases_lt, eq-eqb, ne_eqb}
use Rattle.std.proofs.lemmas.List.{get_or-set_same, get_or-set_other}
use Rattle.std.proofs.lemmas.Nat.Bits.{bit_at-lt, bit_at-zero, bit_at_xor, bit_at-pow_same, bit_at-pow_other, bit_at-trailing_zeros}
use Rattle.std.proofs.Math.Nat.{mod-eq_of_lt, add-mod_right}
use Rattle.hs_base.specs.Bits.{has_bit}
use Rattle.hs_base.proofs.BitLemmas.{bits-past}
use mathlib.Core.Bool.{beq, not}
use Rattle.hs_bits.specs.BitRanges.{HasBitIn, HasBitRound}

-- one bit turned over

abbrev pub flipped : List ℕ → ℕ → List ℕ
flipped bytes k = set bytes (k / 8) (bit_xor (get_or bytes (k / 8) 0) (1 * 2 ^ (k % 8) % 2 ^ 8))

power : (i : ℕ) → i < 8 → 1 * 2 ^ i % 2 ^ 8 ≡ 2 ^ i
power zero below = refl
power (suc zero) below = refl
power (suc (suc zero)) below = refl
power (suc (suc (suc zero))) below = refl
power (suc (suc (suc (suc zero)))) below = refl
power (suc (suc (suc (suc (suc zero))))) below = refl
power (suc (suc (suc (suc (suc (suc zero)))))) below = refl
power (suc (suc (suc (suc (suc (suc (suc zero))))))) below = refl
power (suc (suc (suc (suc (suc (suc (suc (suc i)))))))) below = absurd (omega arith)

turned : (n : ℕ) (value : Bool) → n < 2 → (eqb n 1 ≡ value → ⊥) → eqb ((n + 1) % 2) 1 ≡ value
turned zero true below other = refl
turned zero false below other = absurd (other refl)
turned (suc zero) true below other = absurd (other refl)
turned (suc zero) false below other = refl
turned (suc (suc n)) value below other = absurd (omega arith)

kept : (n : ℕ) → n < 2 → eqb ((n + 0) % 2) 1 ≡ eqb n 1
kept zero below = refl
kept (suc zero) below = refl
kept (suc (suc n)) below = absurd (omega arith)

same_byte : (bytes : List ℕ) (k b : ℕ) → k < 8 * length bytes → b / 8 ≡ k / 8 → get_or (flipped bytes k) (b / 8) 0 ≡ bit_xor (get_or bytes (b / 8) 0) (2 ^ (k % 8))
same_byte bytes k b below e =
    let within : k / 8 < length bytes = omega arith in
    rw e (rw get_or-set_same (ap (λ n. bit_xor (get_or bytes (k / 8) 0) n) (power (k % 8) (omega arith))))

pub bit-flipped : (bytes : List ℕ) (k b : ℕ) (value : Bool) → k < 8 * length bytes → (has_bit bytes k ≡ value → ⊥) → has_bit (flipped bytes k) b ≡ (if eqb b k then value else has_bit bytes b)
unfolding has_bit
bit-flipped bytes k b value below other =
    elim (cases_eq (b / 8) (k / 8)) [
      | inl same ↦
          elim (cases_eq (b % 8) (k % 8)) [
            | inl bits ↦
                let e : b ≡ k = omega arith in
                let n : ℕ = bit_at (get_or bytes (k / 8) 0) (k % 8) in
                rw (same_byte bytes k b below same, bits, same, bit_at_xor, bit_at-pow_same, eq-eqb b k e) (turned n value (bit_at-lt (get_or bytes (k / 8) 0) (k % 8)) other)
            | inr bits ↦
                rw (same_byte bytes k b below same, bit_at_xor, bit_at-pow_other (k % 8) (b % 8) bits, ne_eqb b k (λ e. bits (ap (λ n. n % 8) e))) (kept (bit_at (get_or bytes (b / 8) 0) (b % 8)) (bit_at-lt (get_or bytes (b / 8) 0) (b % 8)))
          ]
      | inr apart ↦
          rw (get_or-set_other bytes (k / 8) (b / 8) (bit_xor (get_or bytes (k / 8) 0) (1 * 2 ^ (k % 8) % 2 ^ 8)) 0 apart, ne_eqb b k (λ e. apart (ap (λ n. n / 8) e))) refl
    ]

-- a byte has a bit that is set just where it isn't zero

pub byte-bit : (bytes : List ℕ) (place first end : ℕ) → first ≤ place → place < end → get_or bytes place 0 < 2 ^ 8 → (get_or bytes place 0 ≡ 0 → ⊥) → HasBitIn bytes (8 * first) (8 * end)
unfolding has_bit
byte-bit bytes place first end above below byte some =
    let n : ℕ = get_or bytes place 0 in
    let ahead : 0 < n = omega (arith, some) in
    let (within, is, _) = bit_at-trailing_zeros w8 n ahead byte in
    let i : ℕ = trailing_zeros w8 n in
    let low : i < 8 = within in
    let e : (8 * place + i) / 8 ≡ place = omega arith in
    let f : (8 * place + i) % 8 ≡ i = omega arith in
    record {
      bit = 8 * place + i;
      above = omega arith;
      below = omega arith;
      set = rw (e, f, is) refl;
    }

pub byte-bits : (bytes : List ℕ) (place k : ℕ) → get_or bytes place 0 ≡ 0 → 8 * place ≤ k → k < 8 * place + 8 → has_bit bytes k ≡ false
unfolding has_bit
byte-bits bytes place k is above below =
    let e : k / 8 ≡ place = omega arith in
    ap (λ p. eqb (bit_at (get_or bytes p 0) (k % 8)) 1) e ∙ (ap (λ n. eqb (bit_at n (k % 8)) 1) is ∙ ap (λ n. eqb n 1) (bit_at-zero (k % 8)))

-- ranges

pub no-bit : (bytes : List ℕ) (first end : ℕ) → ((k : ℕ) → first ≤ k → k < end → has_bit bytes k ≡ false) → HasBitIn bytes first end → ⊥
no-bit bytes first end none some =
    let e : true ≡ false = sym some.set ∙ none some.bit some.above some.below in cc

pub wider : {bytes : List ℕ} (first from to end : ℕ) → first ≤ from → to ≤ end → HasBitIn bytes from to → HasBitIn bytes first end
wider first from to end low high some =
    let above : from ≤ some.bit = some.above in
    let below : some.bit < to = some.below in
    record { bit = some.bit; above = omega arith; below = omega arith; set = some.set }

pub split : {bytes : List ℕ} (first middle end : ℕ) → HasBitIn bytes first end → HasBitIn bytes first middle ⊎ HasBitIn bytes middle end
split first middle end some =
    elim (cases_lt some.bit middle) [
      | inl below ↦ inl (record { bit = some.bit; above = some.above; below = below; set = some.set })
      | inr above ↦ inr (record { bit = some.bit; above = above; below = some.below; set = some.set })
    ]

-- a range that goes round

module _ (bytes : List ℕ) (size first count : ℕ) (start : first < size) (within : count ≤ size) where
  pub round-ahead : (k : ℕ) → first ≤ k → k < size → k < first + count → has_bit bytes k ≡ true → HasBitRound bytes size first count
  round-ahead k above below near is =
      let e : first + (k - first) ≡ k = omega arith in
      record { ahead = k - first; below = omega arith; set = subst (λ p. has_bit bytes p ≡ true) (sym (ap (λ n. n % size) e ∙ mod-eq_of_lt below)) is }

  pub round-again : (k : ℕ) → k + size < first + count → has_bit bytes k ≡ true → HasBitRound bytes size first count
  round-again k near is =
      let below : k < size = omega arith in
      let e : first + (k + size - first) ≡ k + size = omega arith in
      record {
        ahead = k + size - first;
        below = omega arith;
        set = subst (λ p. has_bit bytes p ≡ true) (sym (ap (λ n. n % size) e ∙ (add-mod_right k size ∙ mod-eq_of_lt below))) is;
      }

  -- the bits ahead of the last place, and those behind it
  pub in-round : HasBitIn bytes first (first + count) → first + count ≤ size → HasBitRound bytes size first count
  in-round some short =
      let below : some.bit < first + count = some.below in
      round-ahead some.bit some.above (omega arith) below some.set

  pub in-round_ahead : HasBitIn bytes first size → size < first + count → HasBitRound bytes size first count
  in-round_ahead some long =
      let below : some.bit < size = some.below in
      round-ahead some.bit some.above below (omega arith) some.set

  pub in-round_again : HasBitIn bytes 0 (first + count - size) → HasBitRound bytes size first count
  in-round_again some =
      let below : some.bit < first + count - size = some.below in
      round-again some.bit (omega arith) some.set

  pub round-in : HasBitRound bytes size first count → (HasBitIn bytes first (first + count) × ((size < first + count) → HasBitIn bytes first size)) ⊎ (HasBitIn bytes 0 (first + count - size) × (size < first + count))
  round-in some =
      let ahead : some.ahead < count = some.below in
      let x : ℕ = first + some.ahead in
      elim (cases_lt x size) [
        | inl below ↦
            let e : x % size ≡ x = mod-eq_of_lt below in
            let is : has_bit bytes x ≡ true = subst (λ p. has_bit bytes p ≡ true) e some.set in
            inl (record { bit = x; above = omega arith; below = omega arith; set = is }, λ long. record { bit = x; above = omega arith; below = below; set = is })
        | inr above ↦
            let near : x - size < size = omega arith in
            let e : x - size + size ≡ x = omega arith in
            let f : x % size ≡ x - size = ap (λ n. n % size) (sym e) ∙ (add-mod_right (x - size) size ∙ mod-eq_of_lt near) in
            inr (record { bit = x - size; above = omega arith; below = omega arith; set = subst (λ p. has_bit bytes p ≡ true) f some.set }, omega arith)
      ]

-- truth values

pub apart : (a b : Bool) → not (beq a b) ≡ true → a ≡ b → ⊥
apart true true told same = let e : false ≡ true = told in cc
apart true false told same = let e : true ≡ false = same in cc
apart false true told same = let e : false ≡ true = same in cc
apart false false told same = let e : false ≡ true = told in cc

pub denied : (b : Bool) → (b ≡ true → ⊥) → b ≡ false
denied true isnt = absurd (isnt refl)
denied false isnt = refl

-- no bit of a range that goes to the end of the bytes is set
pub bits-none : (bytes : List ℕ) (first : ℕ) → (HasBitIn bytes first (8 * length bytes) → ⊥) → (k : ℕ) → first ≤ k → has_bit bytes k ≡ false
bits-none bytes first none k above =
    elim (cases_lt k (8 * length bytes)) [
      | inl below ↦ denied (has_bit bytes k) (λ is. none (record { bit = k; above = above; below = below; set = is }))
      | inr past ↦ bits-past bytes k past
    ]
