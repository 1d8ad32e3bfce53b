-- Bits in a row of bytes: one that is set, those of bytes that are zero, and that bytes with the same bits are the same.
use Rattle.std.proofs.Common.{◌≡◌, ◌↔◌, ℕ, zero, suc, ◌+◌, ◌*◌, ◌/◌, ◌%◌, ◌^◌, ◌<◌, ◌≤◌, Bool, true, false, [], ◌∷◌, ◌||◌, List, length, get_or, set, eqb, bit_or, refl, sym, ap, ◌∙◌, inl, inr, arith, w8}
use Rattle.std.specs.Int.{bit_at}
use Rattle.std.proofs.lemmas.Bool.{cases_eq, cases_lt, eq-eqb, ne_eqb}
use Rattle.std.proofs.lemmas.List.{get_or_past, get_or-set_same, get_or-set_other}
use Rattle.std.proofs.lemmas.Nat.Bits.{bit_at-lt, bit_at-zero, bit_at_set_same, bit_at_set_other, same_from_bits_below}
use Rattle.hs_base.specs.Bits.{AreZero, has_bit}

-- the bytes with one bit set
abbrev pub with_bit : List ℕ → ℕ → List ℕ
with_bit bytes k = set bytes (k / 8) (bit_or (get_or bytes (k / 8) 0) (1 * 2 ^ (k % 8) % 2 ^ 8))

same_byte : (bytes : List ℕ) (k b : ℕ) → k < 8 * length bytes → b / 8 ≡ k / 8 → get_or (with_bit bytes k) (b / 8) 0 ≡ bit_or (get_or bytes (b / 8) 0) (1 * 2 ^ (k % 8) % 2 ^ 8)
same_byte bytes k b below e =
    let within : k / 8 < length bytes = omega arith in
    rw e (rw get_or-set_same refl)

pub bit-with_bit : (bytes : List ℕ) (k b : ℕ) → k < 8 * length bytes → has_bit (with_bit bytes k) b ≡ (eqb b k || has_bit bytes b)
unfolding has_bit
bit-with_bit bytes k b below =
    elim (cases_eq (b / 8) (k / 8)) [
      | inl same ↦
          elim (cases_eq (b % 8) (k % 8)) [
            | inl bits ↦
                let e : b ≡ k = omega arith in
                rw (same_byte bytes k b below same, bits, bit_at_set_same w8 (get_or bytes (b / 8) 0) (k % 8) (omega arith), eq-eqb b k e) refl
            | inr bits ↦
                rw (same_byte bytes k b below same, bit_at_set_other w8 (get_or bytes (b / 8) 0) (k % 8) (omega arith) (b % 8) bits, ne_eqb b k (λ e. bits (ap (λ n. n % 8) e))) refl
          ]
      | inr apart ↦
          rw (get_or-set_other bytes (k / 8) (b / 8) (bit_or (get_or bytes (k / 8) 0) (1 * 2 ^ (k % 8) % 2 ^ 8)) 0 apart, ne_eqb b k (λ e. apart (ap (λ n. n / 8) e))) refl
    ]

pub bits-zero : (bytes : List ℕ) → ((i : ℕ) → get_or bytes i 0 ≡ 0) → (k : ℕ) → has_bit bytes k ≡ false
unfolding has_bit
bits-zero bytes zeros k = ap (λ n. eqb (bit_at n (k % 8)) 1) (zeros (k / 8)) ∙ ap (λ n. eqb n 1) (bit_at-zero (k % 8))

-- beyond the bytes no bit is set
pub bits-past : (bytes : List ℕ) (k : ℕ) → 8 * length bytes ≤ k → has_bit bytes k ≡ false
unfolding has_bit
bits-past bytes k past =
    let above : length bytes ≤ k / 8 = omega arith in
    ap (λ n. eqb (bit_at n (k % 8)) 1) (get_or_past bytes (k / 8) 0 above) ∙ ap (λ n. eqb n 1) (bit_at-zero (k % 8))

pub zero-all : (bytes : List ℕ) → AreZero bytes → (i : ℕ) → get_or bytes i 0 ≡ 0
zero-all bytes zeros i =
    elim (cases_lt i (length bytes)) [
      | inl below ↦ zeros i below
      | inr above ↦ get_or_past bytes i 0 above
    ]

-- no bit is set in bytes that are zero
pub zero-bits : (bytes : List ℕ) → AreZero bytes → (k : ℕ) → has_bit bytes k ≡ false
zero-bits bytes zeros = bits-zero bytes (zero-all bytes zeros)

-- bits of two bytes

same-number : (n m : ℕ) → n < 2 → m < 2 → eqb n 1 ≡ eqb m 1 → n ≡ m
same-number zero zero below above same = refl
same-number zero (suc zero) below above same = absurd (let e : false ≡ true = same in cc)
same-number (suc zero) zero below above same = absurd (let e : true ≡ false = same in cc)
same-number (suc zero) (suc zero) below above same = refl
same-number (suc (suc n)) m below above same = absurd (omega arith)
same-number n (suc (suc m)) below above same = absurd (omega arith)

same-byte : (xs ys : List ℕ) (i : ℕ) → get_or xs i 0 < 2 ^ 8 → get_or ys i 0 < 2 ^ 8 → ((k : ℕ) → has_bit xs k ≡ has_bit ys k) → get_or xs i 0 ≡ get_or ys i 0
unfolding has_bit
same-byte xs ys i small small' same =
    same_from_bits_below 8 (get_or xs i 0) (get_or ys i 0) small small' (λ j below.
    let place : (8 * i + j) / 8 ≡ i = omega arith in
    let bit : (8 * i + j) % 8 ≡ j = omega arith in
    let here : eqb (bit_at (get_or xs i 0) j) 1 ≡ eqb (bit_at (get_or ys i 0) j) 1 =
    sym (ap (λ p. eqb (bit_at (get_or xs p 0) ((8 * i + j) % 8)) 1) place ∙ ap (λ q. eqb (bit_at (get_or xs i 0) q) 1) bit)
    ∙ (same (8 * i + j)
    ∙ (ap (λ p. eqb (bit_at (get_or ys p 0) ((8 * i + j) % 8)) 1) place ∙ ap (λ q. eqb (bit_at (get_or ys i 0) q) 1) bit)) in
    same-number (bit_at (get_or xs i 0) j) (bit_at (get_or ys i 0) j) (bit_at-lt (get_or xs i 0) j) (bit_at-lt (get_or ys i 0) j) here)

pub same-places : (xs ys : List ℕ) → length xs ≡ length ys → ((i : ℕ) → i < length xs → get_or xs i 0 ≡ get_or ys i 0) → xs ≡ ys
same-places [] [] len same = refl
same-places [] (y ∷ ys) len same = absurd (omega arith)
same-places (x ∷ xs) [] len same = absurd (omega arith)
same-places (x ∷ xs) (y ∷ ys) len same =
    let heads : x ≡ y = same 0 (omega arith) in
    let tails : xs ≡ ys = same-places xs ys (omega arith) (λ i below. same (suc i) (omega arith)) in
    ap (λ z. z ∷ xs) heads ∙ ap (λ zs. y ∷ zs) tails

-- bytes with the same bits are the same
pub same-bits : (xs ys : List ℕ) → length xs ≡ length ys → ((i : ℕ) → i < length xs → get_or xs i 0 < 2 ^ 8) → ((i : ℕ) → i < length ys → get_or ys i 0 < 2 ^ 8) →
    ((k : ℕ) → has_bit xs k ≡ has_bit ys k) → xs ≡ ys
same-bits xs ys len small small' same =
    same-places xs ys len (λ i below. same-byte xs ys i (small i below) (small' i (omega arith)) same)

-- lists that are zero are the same
pub same-zero : (xs ys : List ℕ) → length xs ≡ length ys → AreZero xs → AreZero ys → xs ≡ ys
same-zero xs ys len zero_xs zero_ys = same-places xs ys len (λ i below. zero-all xs zero_xs i ∙ sym (zero-all ys zero_ys i))

-- bits that tell the same are the same

same-truth : (P : Type 0) (a b : Bool) → ((a ≡ true) ↔ P) → ((b ≡ true) ↔ P) → a ≡ b
same-truth P true b one other = sym (other.1 (one.0 refl))
same-truth P false true one other = one.1 (other.0 refl)
same-truth P false false one other = refl

-- so bytes are the same whose bits tell the same
pub same-told : (P : ℕ → Type 0) (xs ys : List ℕ) → length xs ≡ length ys → ((i : ℕ) → i < length xs → get_or xs i 0 < 2 ^ 8) → ((i : ℕ) → i < length ys → get_or ys i 0 < 2 ^ 8) →
    ((k : ℕ) → (has_bit xs k ≡ true) ↔ P k) → ((k : ℕ) → (has_bit ys k ≡ true) ↔ P k) → xs ≡ ys
same-told P xs ys len small small' one other = same-bits xs ys len small small' (λ k. same-truth (P k) (has_bit xs k) (has_bit ys k) (one k) (other k))
