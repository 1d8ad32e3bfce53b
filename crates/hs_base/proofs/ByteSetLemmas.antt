-- Bits of four words.
use Rattle.std.proofs.Common.{◌≡◌, ℕ, zero, suc, ◌+◌, ◌-◌, ◌*◌, ◌/◌, ◌%◌, ◌^◌, ◌<◌, ◌≤◌, Bool, true, false, not, ◌||◌, List, [], ◌∷◌, length, get_or, set, eqb, max, refl, ap, ◌∙◌, inl, inr, arith, bit_or, w64, Some, zero-add}
use Rattle.std.specs.Int.{bit_at}
use Rattle.std.specs.Prelude.{slice_get}
use Rattle.std.specs.Option.{option_map}
use Rattle.std.specs.List.{range_with_len, filter}
use Rattle.std.proofs.lemmas.List.FromFn.{length-range_with_len, get_or-range_with_len}
use Rattle.std.proofs.lemmas.Option.{slice_get-map, slice_get-get_or}
use Rattle.hs_base.specs.declared.byte_set.ByteSet.{ByteSet}
use Rattle.hs_base.specs.ByteSets.{has, members, members_from}
use Rattle.std.proofs.lemmas.Bool.{cases_eq, eq-eqb, ne_eqb}
use Rattle.std.proofs.lemmas.List.{get_or-set_same, get_or-set_other}
use Rattle.std.proofs.lemmas.Nat.Bits.{bit_at-lt, bit_at_or, bit_at_not, bit_at_set_same, bit_at_set_other}

-- the word at a place of four
pub word_at : (f : ℕ → ℕ) (k : ℕ) → k < 4 → get_or (f 0 ∷ f 1 ∷ f 2 ∷ f 3 ∷ []) k 0 ≡ f k
word_at f zero h = refl
word_at f (suc zero) h = refl
word_at f (suc (suc zero)) h = refl
word_at f (suc (suc (suc zero))) h = refl
word_at f (suc (suc (suc (suc k)))) h = absurd (omega arith)

-- what relates the words at each place of four
pub each_word : (R : ℕ → ℕ → Type 0) (a b c d : ℕ) (words : List ℕ) → R a (get_or words 0 0) → R b (get_or words 1 0) → R c (get_or words 2 0) → R d (get_or words 3 0) → (k : ℕ) → k < 4 → R (get_or (a ∷ b ∷ c ∷ d ∷ []) k 0) (get_or words k 0)
each_word R a b c d words p q r s zero h = p
each_word R a b c d words p q r s (suc zero) h = q
each_word R a b c d words p q r s (suc (suc zero)) h = r
each_word R a b c d words p q r s (suc (suc (suc zero))) h = s
each_word R a b c d words p q r s (suc (suc (suc (suc k)))) h = absurd (omega arith)

pub or-false : (b : Bool) → (b || false) ≡ b
or-false true = refl
or-false false = refl

either : (m n : ℕ) → m < 2 → n < 2 → eqb (max m n) 1 ≡ (eqb m 1 || eqb n 1)
either zero zero hm hn = refl
either zero (suc zero) hm hn = refl
either (suc zero) zero hm hn = refl
either (suc zero) (suc zero) hm hn = refl
either (suc (suc m)) n hm hn = absurd (omega arith)
either m (suc (suc n)) hm hn = absurd (omega arith)

other : (m : ℕ) → m < 2 → eqb (1 - m) 1 ≡ not (eqb m 1)
other zero h = refl
other (suc zero) h = refl
other (suc (suc m)) h = absurd (omega arith)

pub bit-or : (x y i : ℕ) → eqb (bit_at (bit_or x y) i) 1 ≡ (eqb (bit_at x i) 1 || eqb (bit_at y i) 1)
bit-or x y i = rw bit_at_or (either (bit_at x i) (bit_at y i) (bit_at-lt x i) (bit_at-lt y i))

pub bit-not : (x i : ℕ) → x < 2 ^ 64 → i < 64 → eqb (bit_at (2 ^ 64 - 1 - x) i) 1 ≡ not (eqb (bit_at x i) 1)
bit-not x i hx hi = ap (λ n. eqb n 1) (bit_at_not w64 x i hx hi) ∙ other (bit_at x i) (bit_at-lt x i)

-- the words with bit k of all bits set
abbrev pub with_bit : List ℕ → ℕ → List ℕ
with_bit words k = set words (k / 64) (bit_or (get_or words (k / 64) 0) (1 * 2 ^ (k % 64) % 2 ^ 64))

same_word : (words : List ℕ) (k b : ℕ) → length words ≡ 4 → k < 256 → b / 64 ≡ k / 64 → get_or (with_bit words k) (b / 64) 0 ≡ bit_or (get_or words (b / 64) 0) (1 * 2 ^ (k % 64) % 2 ^ 64)
same_word words k b four hk e =
    let within : k / 64 < length words = omega arith in
    rw e (rw get_or-set_same refl)

pub bit-with_bit : (words : List ℕ) (k b : ℕ) → length words ≡ 4 → k < 256 → eqb (bit_at (get_or (with_bit words k) (b / 64) 0) (b % 64)) 1 ≡ (eqb b k || eqb (bit_at (get_or words (b / 64) 0) (b % 64)) 1)
bit-with_bit words k b four hk =
    elim (cases_eq (b / 64) (k / 64)) [
      | inl same ↦
          elim (cases_eq (b % 64) (k % 64)) [
            | inl bits ↦
                let e : b ≡ k = omega arith in
                rw (same_word words k b four hk same, bits, bit_at_set_same w64 (get_or words (b / 64) 0) (k % 64) (omega arith), eq-eqb b k e) refl
            | inr bits ↦
                rw (same_word words k b four hk same, bit_at_set_other w64 (get_or words (b / 64) 0) (k % 64) (omega arith) (b % 64) bits, ne_eqb b k (λ e. bits (ap (λ n. n % 64) e))) refl
          ]
      | inr apart ↦
          rw (get_or-set_other words (k / 64) (b / 64) (bit_or (get_or words (k / 64) 0) (1 * 2 ^ (k % 64) % 2 ^ 64)) 0 apart, ne_eqb b k (λ e. apart (ap (λ n. n / 64) e))) refl
    ]

-- the members of a set, read at a byte
pub members-at : (s : ByteSet) (b : ℕ) → b < 256 → slice_get (members s) b ≡ Some (has s b)
unfolding members
members-at s b below =
    let bytes : List ℕ = range_with_len 0 256 in
    let within : b < length bytes = omega (arith, length-range_with_len 0 256) in
    slice_get-map (has s) bytes b
    ∙ ap (option_map (has s)) (slice_get-get_or bytes b 0 within ∙ ap (λ x. Some x) (get_or-range_with_len 0 256 b 0 below ∙ zero-add b))

-- the members from a byte that is one, from a byte that isn't, and behind the last byte
pub members_from-in : (s : ByteSet) (n : ℕ) → n < 256 → has s n ≡ true → members_from s n ≡ n ∷ members_from s (n + 1)
unfolding members_from
members_from-in s n below member =
    let e : 256 - n ≡ suc (256 - (n + 1)) = omega arith in
    ap (λ m. filter (has s) (range_with_len n m)) e ∙ rw member refl

pub members_from-out : (s : ByteSet) (n : ℕ) → n < 256 → has s n ≡ false → members_from s n ≡ members_from s (n + 1)
unfolding members_from
members_from-out s n below other =
    let e : 256 - n ≡ suc (256 - (n + 1)) = omega arith in
    ap (λ m. filter (has s) (range_with_len n m)) e ∙ rw other refl

pub members_from-end : (s : ByteSet) (n : ℕ) → 256 ≤ n → members_from s n ≡ []
unfolding members_from
members_from-end s n past =
    let e : 256 - n ≡ 0 = omega arith in
    ap (λ m. filter (has s) (range_with_len n m)) e
