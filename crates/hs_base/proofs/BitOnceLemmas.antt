-- Rows of bytes by their bits.
use Rattle.std.proofs.Common.{◌≡◌, ℕ, ◌+◌, ◌*◌, ◌/◌, ◌%◌, ◌<◌, ◌↔◌, true, List, [], ◌∷◌, length, get_or, eqb, zero, suc, sym, ap, ◌∙◌, inl, inr, arith}
use Rattle.std.specs.Int.{bit_at}
use Rattle.std.proofs.lemmas.Bool.{cases_eq, eq-eqb, eqb-true}
use Rattle.std.proofs.lemmas.Nat.Bits.{bit_at-lt, same_from_bits_below}
use Rattle.std.proofs.lemmas.Grind.{same_number_lists}
use Rattle.hs_base.specs.Lists.{Each}
use Rattle.hs_base.specs.Bits.{has_bit}

-- bits are 0 or 1, so those that are 1 tell all
same-bit : (m n : ℕ) → m < 2 → n < 2 → ((eqb m 1 ≡ true) ↔ (eqb n 1 ≡ true)) → m ≡ n
same-bit m n low low' both = elim (cases_eq m 1) [
  | inl one ↦ let e : n ≡ 1 = eqb-true n 1 (both.0 (eq-eqb m 1 one)) in omega arith
  | inr other ↦ elim (cases_eq n 1) [
    | inl one ↦ let e : m ≡ 1 = eqb-true m 1 (both.1 (eq-eqb n 1 one)) in omega arith
    | inr other' ↦ omega arith
  ]
]

pub byte-once : (a b : ℕ) → a < 256 → b < 256 → ((i : ℕ) → i < 8 → (eqb (bit_at a i) 1 ≡ true) ↔ (eqb (bit_at b i) 1 ≡ true)) → a ≡ b
byte-once a b low low' both =
    same_from_bits_below 8 a b (omega arith) (omega arith)
    (λ i below. same-bit (bit_at a i) (bit_at b i) (bit_at-lt a i) (bit_at-lt b i) (both i below))

bit-in_byte : (bytes : List ℕ) (k i : ℕ) → i < 8 → has_bit bytes (8 * k + i) ≡ eqb (bit_at (get_or bytes k 0) i) 1
unfolding has_bit
bit-in_byte bytes k i below =
    let e : (8 * k + i) / 8 ≡ k = omega arith in
    let e' : (8 * k + i) % 8 ≡ i = omega arith in
    ap (λ n. eqb (bit_at (get_or bytes n 0) ((8 * k + i) % 8)) 1) e ∙ ap (λ n. eqb (bit_at (get_or bytes k 0) n) 1) e'

pub each-below : (bytes : List ℕ) → Each (λ b. b < 256) bytes → (k : ℕ) → get_or bytes k 0 < 256
each-below [] each k = omega arith
each-below (b ∷ bytes) each zero = each.0
each-below (b ∷ bytes) each (suc k) = each-below bytes each.1 k

-- a byte by the bits of its row
pub byte-by : (xs ys : List ℕ) (k : ℕ) → get_or xs k 0 < 256 → get_or ys k 0 < 256 →
    ((i : ℕ) → i < 8 → (has_bit xs (8 * k + i) ≡ true) ↔ (has_bit ys (8 * k + i) ≡ true)) → get_or xs k 0 ≡ get_or ys k 0
byte-by xs ys k low low' both =
    byte-once (get_or xs k 0) (get_or ys k 0) low low'
    (λ i below. (
      λ is. sym (bit-in_byte ys k i below) ∙ (both i below).0 (bit-in_byte xs k i below ∙ is),
      λ is. sym (bit-in_byte xs k i below) ∙ (both i below).1 (bit-in_byte ys k i below ∙ is),
    ))

pub byte-by_bits : (xs ys : List ℕ) → Each (λ b. b < 256) xs → Each (λ b. b < 256) ys → (k : ℕ) →
    ((i : ℕ) → i < 8 → (has_bit xs (8 * k + i) ≡ true) ↔ (has_bit ys (8 * k + i) ≡ true)) → get_or xs k 0 ≡ get_or ys k 0
byte-by_bits xs ys each each' k both = byte-by xs ys k (each-below xs each k) (each-below ys each' k) both

pub bits-once : (xs ys : List ℕ) → length xs ≡ length ys → Each (λ b. b < 256) xs → Each (λ b. b < 256) ys →
    ((k : ℕ) → (has_bit xs k ≡ true) ↔ (has_bit ys k ≡ true)) → xs ≡ ys
bits-once xs ys size each each' both =
    same_number_lists xs ys size (λ k below. byte-by_bits xs ys each each' k (λ i low. both (8 * k + i)))
