-- Bits in a row of words.
use Rattle.std.proofs.Common.{◌≡◌, ◌≢◌, ℕ, zero, suc, ◌+◌, ◌-◌, ◌*◌, ◌/◌, ◌%◌, ◌^◌, ◌<◌, ◌≤◌, Bool, true, false, ◌&&◌, ◌||◌, List, length, get_or, set, eqb, bit_or, bit_and, refl, sym, ap, subst, ◌∙◌, inl, inr, arith, w64, [], ◌∷◌, ◌++◌, take, drop, length-drop, replicate}
use Rattle.std.specs.Prelude.{nat_lt, nat_le}
use Rattle.std.specs.Int.{bit_at, trailing_zeros, from_le_bytes, to_le_bytes}
use Rattle.std.proofs.lemmas.Bool.{cases_eq, cases_lt, eq-eqb, eqb-true, ne_eqb, lt-ltb, le-ltb, le-leb, lt-leb}
use Rattle.std.proofs.lemmas.List.{get_or-set_same, get_or-set_other, get_or-replicate, get_or_past, get_or-take, get_or-drop, length-replicate, length-take, get_or_append_left, get_or-append-add}
use Rattle.std.proofs.lemmas.Nat.{and_le_l, shr-shr, shr_split, one_shl, pow_pos, from_le_bytes-to_le_bytes_8}
use Rattle.std.proofs.lemmas.Nat.Bits.{bit_at-trailing_zeros, bit_at-zero, bit_at_above, bit_at_cat_low, bit_at_cat_high}
use Rattle.hs_base.proofs.ByteSetLemmas.{bit-or}
use Rattle.hs_base.proofs.ContextSetLemmas.{bit-and, bit-all, bit-one}
use Rattle.hs_base.specs.Bits.{AreZero, has_bit, has_word_bit}
use Rattle.hs_base.proofs.BitLemmas.{bits-past}
use Rattle.hs_bits.specs.Shifts.{is_shifted}

-- truth values

pub and-true : (a : Bool) → (a && true) ≡ a
and-true true = refl
and-true false = refl

pub and-none : (a : Bool) → (a && false) ≡ false
and-none true = refl
and-none false = refl

pub or-none : (a : Bool) → (a || false) ≡ a
or-none true = refl
or-none false = refl

pub or-turned : (a b : Bool) → (a || b) ≡ (b || a)
or-turned true true = refl
or-turned true false = refl
or-turned false true = refl
or-turned false false = refl

-- one more place of a row: what is known under it, and what is set at it
pub one-more : (here under next bit test before now first : Bool) → (here ≡ true → (under ≡ false) × (next ≡ true) × (bit ≡ test)) → (here ≡ false → under ≡ next) →
    before ≡ ((under && test) || first) → now ≡ ((here && bit) || before) → now ≡ ((next && test) || first)
one-more true under next bit test before now first at_it elsewhere known set =
    let (low, high, same) = at_it refl in
    let e : before ≡ first = known ∙ ap (λ b. (b && test) || first) low in
    set ∙ (ap (λ b. b || before) same ∙ (ap (λ b. test || b) e ∙ sym (ap (λ b. (b && test) || first) high)))
one-more false under next bit test before now first at_it elsewhere known set = set ∙ (known ∙ ap (λ b. (b && test) || first) (elsewhere refl))

pub one-more_alone : (here under next bit test before now : Bool) → (here ≡ true → (under ≡ false) × (next ≡ true) × (bit ≡ test)) → (here ≡ false → under ≡ next) →
    before ≡ (under && test) → now ≡ ((here && bit) || before) → now ≡ (next && test)
one-more_alone here under next bit test before now at_it elsewhere known set =
    one-more here under next bit test before now false at_it elsewhere (known ∙ sym (or-none (under && test))) set ∙ or-none (next && test)

-- which numbers stand under the next one
pub here-under : (k p : ℕ) → eqb k p ≡ true → (nat_lt k p ≡ false) × (nat_lt k (p + 1) ≡ true)
here-under k p here = let e : k ≡ p = eqb-true k p here in (le-ltb k p (omega arith), lt-ltb k (p + 1) (omega arith))

pub there-under : (k p : ℕ) → eqb k p ≡ false → nat_lt k p ≡ nat_lt k (p + 1)
there-under k p there =
    elim (cases_lt k p) [
      | inl below ↦ rw (lt-ltb k p below, lt-ltb k (p + 1) (omega arith)) refl
      | inr above ↦
          elim (cases_eq k p) [
            | inl e ↦ absurd (let f : true ≡ false = sym (eq-eqb k p e) ∙ there in cc)
            | inr apart ↦ rw (le-ltb k p above, le-ltb k (p + 1) (let d : k ≢ p = apart in omega arith)) refl
          ]
    ]

pub and-swapped : (a b c : Bool) → (a && (b && c)) ≡ (b && (a && c))
and-swapped true b c = refl
and-swapped false true c = refl
and-swapped false false c = refl

-- one more number of which a test tells, with what stood before
pub number-more : (test : ℕ → Bool) (k p : ℕ) (bit before now first : Bool) → (k ≡ p → bit ≡ test k) → before ≡ ((nat_lt k p && test k) || first) → now ≡ ((eqb k p && bit) || before) → now ≡ ((nat_lt k (p + 1) && test k) || first)
number-more test k p bit before now first same known set =
    one-more (eqb k p) (nat_lt k p) (nat_lt k (p + 1)) bit (test k) before now first
    (λ here. let (low, high) = here-under k p here in (low, high, same (eqb-true k p here))) (there-under k p) known set

pub number-more_alone : (test : ℕ → Bool) (k p : ℕ) (bit before now : Bool) → (k ≡ p → bit ≡ test k) → before ≡ (nat_lt k p && test k) → now ≡ ((eqb k p && bit) || before) → now ≡ (nat_lt k (p + 1) && test k)
number-more_alone test k p bit before now same known set =
    one-more_alone (eqb k p) (nat_lt k p) (nat_lt k (p + 1)) bit (test k) before now
    (λ here. let (low, high) = here-under k p here in (low, high, same (eqb-true k p here))) (there-under k p) known set

-- none yet, and all of them
pub none-under : (k : ℕ) (test first : Bool) → first ≡ ((nat_lt k 0 && test) || first)
none-under k test first = sym (ap (λ b. (b && test) || first) (le-ltb k 0 (omega arith)))

pub none-under_alone : (k : ℕ) (test now : Bool) → now ≡ false → now ≡ (nat_lt k 0 && test)
none-under_alone k test now none = none ∙ sym (ap (λ b. b && test) (le-ltb k 0 (omega arith)))

pub all-under : (k n : ℕ) (test : Bool) → (n ≤ k → test ≡ false) → (nat_lt k n && test) ≡ test
all-under k n test past =
    elim (cases_lt k n) [
      | inl below ↦ ap (λ b. b && test) (lt-ltb k n below)
      | inr above ↦ ap (λ b. b && test) (le-ltb k n above) ∙ sym (past above)
    ]

-- bits of a number

low-bits : (n i : ℕ) → i < 64 → bit_at (n % 2 ^ 64) i ≡ bit_at n i
low-bits n i below = sym (bit_at_cat_low (n / 2 ^ 64) 64 (n % 2 ^ 64) i below) ∙ ap (λ m. bit_at m i) (shr_split n 64)

shl-bits : (x d i : ℕ) → eqb (bit_at (x * 2 ^ d) i) 1 ≡ (nat_le d i && eqb (bit_at x (i - d)) 1)
shl-bits x d i =
    let e : x * 2 ^ d ≡ x * 2 ^ d + 0 = omega arith in
    elim (cases_lt i d) [
      | inl below ↦ rw (lt-leb d i below) (ap (λ m. eqb (bit_at m i) 1) e ∙ (ap (λ m. eqb m 1) (bit_at_cat_low x d 0 i below) ∙ ap (λ m. eqb m 1) (bit_at-zero i)))
      | inr above ↦ rw (le-leb d i above) (ap (λ m. eqb (bit_at m i) 1) e ∙ ap (λ m. eqb m 1) (bit_at_cat_high x d 0 i (pow_pos d) above))
    ]

-- the bits of a word that is shifted up
pub shl-bit : (x d i : ℕ) → i < 64 → eqb (bit_at (x * 2 ^ d % 2 ^ 64) i) 1 ≡ (nat_le d i && eqb (bit_at x (i - d)) 1)
shl-bit x d i below = ap (λ m. eqb m 1) (low-bits (x * 2 ^ d) i below) ∙ shl-bits x d i

pub shifted-bit : (x d carry i : ℕ) → i < 64 → eqb (bit_at (bit_or (x * 2 ^ d % 2 ^ 64) carry) i) 1 ≡ ((nat_le d i && eqb (bit_at x (i - d)) 1) || eqb (bit_at carry i) 1)
shifted-bit x d carry i below = bit-or (x * 2 ^ d % 2 ^ 64) carry i ∙ ap (λ b. b || eqb (bit_at carry i) 1) (shl-bit x d i below)

-- the bits that leave a word
pub carried-bit : (x d i : ℕ) → d < 64 → x < 2 ^ 64 → eqb (bit_at (x / 2 / 2 ^ (63 - d)) i) 1 ≡ (nat_lt i d && eqb (bit_at x (64 - d + i)) 1)
carried-bit x d i near small =
    let one : x / 2 / 2 ^ (63 - d) ≡ x / 2 ^ (1 + (63 - d)) = shr-shr x 1 (63 - d) in
    let moved : eqb (bit_at (x / 2 / 2 ^ (63 - d)) i) 1 ≡ eqb (bit_at x (1 + (63 - d) + i)) 1 = ap (λ m. eqb (m / 2 ^ i % 2) 1) one ∙ ap (λ m. eqb (m % 2) 1) (shr-shr x (1 + (63 - d)) i) in
    elim (cases_lt i d) [
      | inl below ↦
          let same : 1 + (63 - d) + i ≡ 64 - d + i = omega arith in
          rw (lt-ltb i d below) (moved ∙ ap (λ k. eqb (bit_at x k) 1) same)
      | inr above ↦
          let past : 64 ≤ 1 + (63 - d) + i = omega arith in
          rw (le-ltb i d above) (moved ∙ ap (λ m. eqb m 1) (bit_at_above x 64 (1 + (63 - d) + i) small past))
    ]

byte-bit : (x s i : ℕ) → i < 8 → eqb (bit_at (bit_and (x / 2 ^ s) 255) i) 1 ≡ eqb (bit_at x (s + i)) 1
byte-bit x s i below =
    bit-and (x / 2 ^ s) 255 i
    ∙ (ap (λ b. eqb (bit_at (x / 2 ^ s) i) 1 && b) (bit-all 8 i below) ∙ (and-true (eqb (bit_at (x / 2 ^ s) i) 1) ∙ ap (λ m. eqb (m % 2) 1) (shr-shr x s i)))

-- the bits of one byte of a row
pub byte-bits : (words : List ℕ) (place i : ℕ) → i < 8 → eqb (bit_at (bit_and (get_or words (place / 8) 0 / 2 ^ (8 * (place % 8))) 255) i) 1 ≡ has_word_bit words (8 * place + i)
unfolding has_word_bit
byte-bits words place i below =
    let word : (8 * place + i) / 64 ≡ place / 8 = omega arith in
    let bit : (8 * place + i) % 64 ≡ 8 * (place % 8) + i = omega arith in
    byte-bit (get_or words (place / 8) 0) (8 * (place % 8)) i below
    ∙ sym (ap (λ n. eqb (bit_at (get_or words n 0) ((8 * place + i) % 64)) 1) word ∙ ap (λ n. eqb (bit_at (get_or words (place / 8) 0) n) 1) bit)

-- bits of a row

pub words-past : (words : List ℕ) (k : ℕ) → 64 * length words ≤ k → has_word_bit words k ≡ false
unfolding has_word_bit
words-past words k past =
    let above : length words ≤ k / 64 = omega arith in
    ap (λ n. eqb (bit_at n (k % 64)) 1) (get_or_past words (k / 64) 0 above) ∙ ap (λ n. eqb n 1) (bit_at-zero (k % 64))

pub words-zero : (words : List ℕ) → ((i : ℕ) → get_or words i 0 ≡ 0) → (k : ℕ) → has_word_bit words k ≡ false
unfolding has_word_bit
words-zero words zeros k = ap (λ n. eqb (bit_at n (k % 64)) 1) (zeros (k / 64)) ∙ ap (λ n. eqb n 1) (bit_at-zero (k % 64))

-- a word that another was united with
-- no bit is set where all words are 0
pub zero-words : (n x : ℕ) → get_or (replicate n zero) x zero ≡ zero
zero-words n x =
    elim (cases_lt x n) [
      | inl below ↦ get_or-replicate n x zero zero below
      | inr past ↦ get_or_past (replicate n zero) x zero (omega (arith, past, length-replicate n zero))
    ]

pub zero-row : (n k : ℕ) → has_word_bit (replicate n zero) k ≡ false
zero-row n k = words-zero (replicate n zero) (zero-words n) k

pub bits-united_word : (words : List ℕ) (p v k : ℕ) → p < length words →
    has_word_bit (set words p (bit_or (get_or words p 0) v)) k ≡ ((eqb (k / 64) p && eqb (bit_at v (k % 64)) 1) || has_word_bit words k)
unfolding has_word_bit
bits-united_word words p v k within =
    elim (cases_eq (k / 64) p) [
      | inl same ↦
          rw (eq-eqb (k / 64) p same)
          (ap (λ n. eqb (bit_at (get_or (set words p (bit_or (get_or words p 0) v)) n 0) (k % 64)) 1) same
          ∙ (ap (λ n. eqb (bit_at n (k % 64)) 1) (get_or-set_same words p (bit_or (get_or words p 0) v) 0 within)
          ∙ (bit-or (get_or words p 0) v (k % 64)
          ∙ (or-turned (eqb (bit_at (get_or words p 0) (k % 64)) 1) (eqb (bit_at v (k % 64)) 1)
          ∙ ap (λ n. eqb (bit_at v (k % 64)) 1 || eqb (bit_at (get_or words n 0) (k % 64)) 1) (sym same)))))
      | inr apart ↦ rw (ne_eqb (k / 64) p apart) (ap (λ n. eqb (bit_at n (k % 64)) 1) (get_or-set_other words p (k / 64) (bit_or (get_or words p 0) v) 0 apart))
    ]

same-number : (k bit : ℕ) → (eqb (k / 64) (bit / 64) && eqb (k % 64) (bit % 64)) ≡ eqb k bit
same-number k bit =
    elim (cases_eq (k / 64) (bit / 64)) [
      | inr apart ↦ rw (ne_eqb (k / 64) (bit / 64) apart, ne_eqb k bit (λ e. apart (ap (λ n. n / 64) e))) refl
      | inl words ↦ elim (cases_eq (k % 64) (bit % 64)) [
        | inr apart ↦ rw (eq-eqb (k / 64) (bit / 64) words, ne_eqb (k % 64) (bit % 64) apart, ne_eqb k bit (λ e. apart (ap (λ n. n % 64) e))) refl
        | inl bits ↦
            let e : k ≡ bit = omega arith in
            rw (eq-eqb (k / 64) (bit / 64) words, eq-eqb (k % 64) (bit % 64) bits, eq-eqb k bit e) refl
      ]
    ]

-- a row with one more bit set
pub bits-with_bit : (words : List ℕ) (bit k : ℕ) → bit < 64 * length words →
    has_word_bit (set words (bit / 64) (bit_or (get_or words (bit / 64) 0) (1 * 2 ^ (bit % 64) % 2 ^ 64))) k ≡ (eqb k bit || has_word_bit words k)
bits-with_bit words bit k below =
    let within : bit / 64 < length words = omega arith in
    let small : bit % 64 < 64 = omega arith in
    let one : eqb (bit_at (1 * 2 ^ (bit % 64) % 2 ^ 64) (k % 64)) 1 ≡ eqb (k % 64) (bit % 64) = ap (λ n. eqb (bit_at n (k % 64)) 1) (one_shl (bit % 64) 64 small) ∙ bit-one (bit % 64) (k % 64) in
    bits-united_word words (bit / 64) (1 * 2 ^ (bit % 64) % 2 ^ 64) k within
    ∙ ap (λ b. b || has_word_bit words k) (ap (λ b. eqb (k / 64) (bit / 64) && b) one ∙ same-number k bit)

-- the bits of a byte, in its place of a word
byte-placed : (bytes : List ℕ) (p k : ℕ) → get_or bytes p 0 < 2 ^ 8 →
    (eqb (k / 64) (p / 8) && eqb (bit_at (get_or bytes p 0 * 2 ^ (8 * (p % 8)) % 2 ^ 64) (k % 64)) 1) ≡ (eqb (k / 8) p && has_bit bytes k)
unfolding has_bit
byte-placed bytes p k small =
    let shift : ℕ = 8 * (p % 8) in
    let bits : eqb (bit_at (get_or bytes p 0 * 2 ^ shift % 2 ^ 64) (k % 64)) 1 ≡ (nat_le shift (k % 64) && eqb (bit_at (get_or bytes p 0) (k % 64 - shift)) 1) = shl-bit (get_or bytes p 0) shift (k % 64) (omega arith) in
    ap (λ b. eqb (k / 64) (p / 8) && b) bits
    ∙ elim (cases_eq (k / 8) p) [
      | inl same ↦
          let word : k / 64 ≡ p / 8 = omega arith in
          let above : shift ≤ k % 64 = omega arith in
          let bit : k % 64 - shift ≡ k % 8 = omega arith in
          rw (eq-eqb (k / 64) (p / 8) word, le-leb shift (k % 64) above, eq-eqb (k / 8) p same)
          (ap (λ n. eqb (bit_at (get_or bytes p 0) n) 1) bit ∙ ap (λ n. eqb (bit_at (get_or bytes n 0) (k % 8)) 1) (sym same))
      | inr apart ↦ rw (ne_eqb (k / 8) p apart) elim (cases_eq (k / 64) (p / 8)) [
        | inr other ↦ rw (ne_eqb (k / 64) (p / 8) other) refl
        | inl word ↦ elim (cases_lt (k % 64) shift) [
          | inl below ↦ rw (lt-leb shift (k % 64) below) (and-none (eqb (k / 64) (p / 8)))
          | inr over ↦
              let past : 8 ≤ k % 64 - shift = omega arith in
              rw (ap (λ n. eqb n 1) (bit_at_above (get_or bytes p 0) 8 (k % 64 - shift) small past)) (ap (λ b. eqb (k / 64) (p / 8) && b) (and-none (nat_le shift (k % 64))) ∙ and-none (eqb (k / 64) (p / 8)))
        ]
      ]
    ]

-- a row with the bits of one byte more
pub bits-united_byte : (words bytes : List ℕ) (p k : ℕ) → p < 8 * length words → get_or bytes p 0 < 2 ^ 8 →
    has_word_bit (set words (p / 8) (bit_or (get_or words (p / 8) 0) (get_or bytes p 0 * 2 ^ (8 * (p % 8)) % 2 ^ 64))) k ≡ ((eqb (k / 8) p && has_bit bytes k) || has_word_bit words k)
bits-united_byte words bytes p k below small =
    bits-united_word words (p / 8) (get_or bytes p 0 * 2 ^ (8 * (p % 8)) % 2 ^ 64) k (omega arith) ∙ ap (λ b. b || has_word_bit words k) (byte-placed bytes p k small)

-- one byte more
pub byte-more : (bytes : List ℕ) (p k : ℕ) (before now first : Bool) → before ≡ ((nat_lt k (8 * p) && has_bit bytes k) || first) → now ≡ ((eqb (k / 8) p && has_bit bytes k) || before) →
    now ≡ ((nat_lt k (8 * (p + 1)) && has_bit bytes k) || first)
byte-more bytes p k before now first known set =
    one-more (eqb (k / 8) p) (nat_lt k (8 * p)) (nat_lt k (8 * (p + 1))) (has_bit bytes k) (has_bit bytes k) before now first
    (λ here. let e : k / 8 ≡ p = eqb-true (k / 8) p here in (le-ltb k (8 * p) (omega arith), lt-ltb k (8 * (p + 1)) (omega arith), refl))
    (λ there.
    elim (cases_lt k (8 * p)) [
      | inl below ↦ rw (lt-ltb k (8 * p) below, lt-ltb k (8 * (p + 1)) (omega arith)) refl
      | inr above ↦
          elim (cases_eq (k / 8) p) [
            | inl e ↦ absurd (let f : true ≡ false = sym (eq-eqb (k / 8) p e) ∙ there in cc)
            | inr apart ↦ rw (le-ltb k (8 * p) above, le-ltb k (8 * (p + 1)) (let d : k / 8 ≢ p = apart in omega arith)) refl
          ]
    ]) known set

pub bytes-all : (bytes : List ℕ) (k : ℕ) → (nat_lt k (8 * length bytes) && has_bit bytes k) ≡ has_bit bytes k
bytes-all bytes k =
    elim (cases_lt k (8 * length bytes)) [
      | inl below ↦ rw (lt-ltb k (8 * length bytes) below) refl
      | inr past ↦ rw (bits-past bytes k past) (and-none (nat_lt k (8 * length bytes)))
    ]

-- two rows

pub united-words : (old row new : List ℕ) → ((i : ℕ) → i < length row → get_or new i 0 ≡ bit_or (get_or old i 0) (get_or row i 0)) → ((i : ℕ) → length row ≤ i → get_or new i 0 ≡ get_or old i 0) →
    (k : ℕ) → has_word_bit new k ≡ (has_word_bit row k || has_word_bit old k)
unfolding has_word_bit
united-words old row new united kept k =
    elim (cases_lt (k / 64) (length row)) [
      | inl below ↦
          ap (λ n. eqb (bit_at n (k % 64)) 1) (united (k / 64) below)
          ∙ (bit-or (get_or old (k / 64) 0) (get_or row (k / 64) 0) (k % 64)
          ∙ or-turned (eqb (bit_at (get_or old (k / 64) 0) (k % 64)) 1) (eqb (bit_at (get_or row (k / 64) 0) (k % 64)) 1))
      | inr above ↦
          let none : eqb (bit_at (get_or row (k / 64) 0) (k % 64)) 1 ≡ false = ap (λ n. eqb (bit_at n (k % 64)) 1) (get_or_past row (k / 64) 0 above) ∙ ap (λ n. eqb n 1) (bit_at-zero (k % 64)) in
          ap (λ n. eqb (bit_at n (k % 64)) 1) (kept (k / 64) above) ∙ sym (ap (λ b. b || eqb (bit_at (get_or old (k / 64) 0) (k % 64)) 1) none)
    ]

and-turned : (a b : Bool) → (a && b) ≡ (b && a)
and-turned true true = refl
and-turned true false = refl
and-turned false true = refl
and-turned false false = refl

pub kept-words : (old row new : List ℕ) → ((i : ℕ) → i < length row → get_or new i 0 ≡ bit_and (get_or old i 0) (get_or row i 0)) → (k : ℕ) → k < 64 * length row →
    has_word_bit new k ≡ (has_word_bit row k && has_word_bit old k)
unfolding has_word_bit
kept-words old row new kept k below =
    let within : k / 64 < length row = omega arith in
    ap (λ n. eqb (bit_at n (k % 64)) 1) (kept (k / 64) within)
    ∙ (bit-and (get_or old (k / 64) 0) (get_or row (k / 64) 0) (k % 64)
    ∙ and-turned (eqb (bit_at (get_or old (k / 64) 0) (k % 64)) 1) (eqb (bit_at (get_or row (k / 64) 0) (k % 64)) 1))

pub apart-words : (words row : List ℕ) → ((i : ℕ) → i < length row → bit_and (get_or words i 0) (get_or row i 0) ≡ 0) → (k : ℕ) → (has_word_bit words k && has_word_bit row k) ≡ false
unfolding has_word_bit
apart-words words row apart k =
    elim (cases_lt (k / 64) (length row)) [
      | inl below ↦
          sym (bit-and (get_or words (k / 64) 0) (get_or row (k / 64) 0) (k % 64)) ∙ (ap (λ n. eqb (bit_at n (k % 64)) 1) (apart (k / 64) below) ∙ ap (λ n. eqb n 1) (bit_at-zero (k % 64)))
      | inr above ↦
          let none : eqb (bit_at (get_or row (k / 64) 0) (k % 64)) 1 ≡ false = ap (λ n. eqb (bit_at n (k % 64)) 1) (get_or_past row (k / 64) 0 above) ∙ ap (λ n. eqb n 1) (bit_at-zero (k % 64)) in
          ap (λ b. eqb (bit_at (get_or words (k / 64) 0) (k % 64)) 1 && b) none ∙ and-none (eqb (bit_at (get_or words (k / 64) 0) (k % 64)) 1)
    ]

-- two words that are not 0 together have a bit in common
pub together : (words row : List ℕ) (p : ℕ) → get_or words p 0 < 2 ^ 64 → (bit_and (get_or words p 0) (get_or row p 0) ≡ 0 → ⊥) →
    ((k : ℕ) → (has_word_bit words k && has_word_bit row k) ≡ false) → ⊥
unfolding has_word_bit
together words row p small some apart =
    let n : ℕ = bit_and (get_or words p 0) (get_or row p 0) in
    let ahead : 0 < n = omega (arith, some) in
    let low : n < 2 ^ 64 = omega (arith, and_le_l (get_or words p 0) (get_or row p 0)) in
    let (within, is, _) = bit_at-trailing_zeros w64 n ahead low in
    let i : ℕ = trailing_zeros w64 n in
    let below : i < 64 = within in
    let word : (64 * p + i) / 64 ≡ p = omega arith in
    let bit : (64 * p + i) % 64 ≡ i = omega arith in
    let both : (eqb (bit_at (get_or words p 0) i) 1 && eqb (bit_at (get_or row p 0) i) 1) ≡ true =
    sym (bit-and (get_or words p 0) (get_or row p 0) i) ∙ ap (λ m. eqb m 1) is in
    let none : (eqb (bit_at (get_or words p 0) i) 1 && eqb (bit_at (get_or row p 0) i) 1) ≡ false =
    sym (ap (λ q. eqb (bit_at (get_or words q 0) ((64 * p + i) % 64)) 1 && eqb (bit_at (get_or row q 0) ((64 * p + i) % 64)) 1) word
    ∙ ap (λ j. eqb (bit_at (get_or words p 0) j) 1 && eqb (bit_at (get_or row p 0) j) 1) bit)
    ∙ apart (64 * p + i) in
    let e : true ≡ false = sym both ∙ none in cc

-- bytes that words are stored to

pub stored : (words bytes : List ℕ) (n : ℕ) → length bytes ≡ n → ((k : ℕ) → k < 8 * n → has_bit bytes k ≡ has_word_bit words k) → (k : ℕ) → has_bit bytes k ≡ (nat_lt k (8 * n) && has_word_bit words k)
stored words bytes n len bits k =
    elim (cases_lt k (8 * n)) [
      | inl below ↦ rw (lt-ltb k (8 * n) below) (bits k below)
      | inr past ↦ rw (le-ltb k (8 * n) past) (bits-past bytes k (omega arith))
    ]

-- a row that is shifted up by less than a word

pub no-carry : (live row : List ℕ) (d i : ℕ) → eqb (bit_at 0 i) 1 ≡ (nat_lt i d && is_shifted live row d (64 * 0 + i))
no-carry live row d i =
    ap (λ n. eqb n 1) (bit_at-zero i)
    ∙ elim (cases_lt i d) [
      | inl below ↦ rw (lt-ltb i d below, lt-leb d (64 * 0 + i) (omega arith)) refl
      | inr above ↦ rw (le-ltb i d above) refl
    ]

shifted-at : (live row : List ℕ) (p d k i : ℕ) → d ≤ k → (k - d) / 64 ≡ p → (k - d) % 64 ≡ i → is_shifted live row d k ≡ eqb (bit_at (bit_and (get_or live p 0) (get_or row p 0)) i) 1
unfolding has_word_bit
shifted-at live row p d k i above word bit =
    rw (le-leb d k above)
    (ap (λ n. eqb (bit_at (get_or live n 0) ((k - d) % 64)) 1 && eqb (bit_at (get_or row n 0) ((k - d) % 64)) 1) word
    ∙ (ap (λ n. eqb (bit_at (get_or live p 0) n) 1 && eqb (bit_at (get_or row p 0) n) 1) bit ∙ sym (bit-and (get_or live p 0) (get_or row p 0) i)))

shifted-word : (live row : List ℕ) (p d v carry i : ℕ) → d < 64 → i < 64 → eqb (bit_at carry i) 1 ≡ (nat_lt i d && is_shifted live row d (64 * p + i)) →
    eqb (bit_at v i) 1 ≡ ((nat_le d i && eqb (bit_at (bit_and (get_or live p 0) (get_or row p 0)) (i - d)) 1) || eqb (bit_at carry i) 1) → eqb (bit_at v i) 1 ≡ is_shifted live row d (64 * p + i)
shifted-word live row p d v carry i near below carried word =
    elim (cases_lt i d) [
      | inl low ↦
          let from : eqb (bit_at carry i) 1 ≡ is_shifted live row d (64 * p + i) = carried ∙ ap (λ b. b && is_shifted live row d (64 * p + i)) (lt-ltb i d low) in
          word ∙ (ap (λ b. (b && eqb (bit_at (bit_and (get_or live p 0) (get_or row p 0)) (i - d)) 1) || eqb (bit_at carry i) 1) (lt-leb d i low) ∙ from)
      | inr high ↦
          let none : eqb (bit_at carry i) 1 ≡ false = carried ∙ ap (λ b. b && is_shifted live row d (64 * p + i)) (le-ltb i d high) in
          let moved : Bool = eqb (bit_at (bit_and (get_or live p 0) (get_or row p 0)) (i - d)) 1 in
          word ∙ (ap (λ b. (b && moved) || eqb (bit_at carry i) 1) (le-leb d i high) ∙ (ap (λ b. moved || b) none ∙ (or-none moved
          ∙ sym (shifted-at live row p d (64 * p + i) (i - d) (omega arith) (omega arith) (omega arith)))))
    ]

pub shift-more : (live row led first : List ℕ) (p d v carry : ℕ) → d < 64 → p < length led → ((i : ℕ) → eqb (bit_at carry i) 1 ≡ (nat_lt i d && is_shifted live row d (64 * p + i))) →
    ((i : ℕ) → i < 64 → eqb (bit_at v i) 1 ≡ ((nat_le d i && eqb (bit_at (bit_and (get_or live p 0) (get_or row p 0)) (i - d)) 1) || eqb (bit_at carry i) 1)) →
    ((k : ℕ) → has_word_bit led k ≡ ((nat_lt k (64 * p) && is_shifted live row d k) || has_word_bit first k)) → (k : ℕ) →
    has_word_bit (set led p (bit_or (get_or led p 0) v)) k ≡ ((nat_lt k (64 * (p + 1)) && is_shifted live row d k) || has_word_bit first k)
shift-more live row led first p d v carry near within carried word known k =
    one-more (eqb (k / 64) p) (nat_lt k (64 * p)) (nat_lt k (64 * (p + 1))) (eqb (bit_at v (k % 64)) 1) (is_shifted live row d k) (has_word_bit led k) (has_word_bit (set led p (bit_or (get_or led p 0) v)) k) (has_word_bit first k)
    (λ here.
    let e : k / 64 ≡ p = eqb-true (k / 64) p here in
    let same : 64 * p + k % 64 ≡ k = omega arith in (
      le-ltb k (64 * p) (omega arith),
      lt-ltb k (64 * (p + 1)) (omega arith),
      shifted-word live row p d v carry (k % 64) near (omega arith) (carried (k % 64)) (word (k % 64) (omega arith)) ∙ ap (is_shifted live row d) same,
    ))
    (λ there.
    elim (cases_lt k (64 * p)) [
      | inl below ↦ rw (lt-ltb k (64 * p) below, lt-ltb k (64 * (p + 1)) (omega arith)) refl
      | inr above ↦
          elim (cases_eq (k / 64) p) [
            | inl e ↦ absurd (let f : true ≡ false = sym (eq-eqb (k / 64) p e) ∙ there in cc)
            | inr apart ↦ rw (le-ltb k (64 * p) above, le-ltb k (64 * (p + 1)) (let d : k / 64 ≢ p = apart in omega arith)) refl
          ]
    ]) (known k) (bits-united_word led p v k within)

pub carry-more : (live row : List ℕ) (p d carry : ℕ) → d < 64 → ((i : ℕ) → eqb (bit_at carry i) 1 ≡ (nat_lt i d && eqb (bit_at (bit_and (get_or live p 0) (get_or row p 0)) (64 - d + i)) 1)) →
    (i : ℕ) → eqb (bit_at carry i) 1 ≡ (nat_lt i d && is_shifted live row d (64 * (p + 1) + i))
carry-more live row p d carry near carried i =
    carried i
    ∙ elim (cases_lt i d) [
      | inl below ↦ rw (lt-ltb i d below) (sym (shifted-at live row p d (64 * (p + 1) + i) (64 - d + i) (omega arith) (omega arith) (omega arith)))
      | inr above ↦ rw (le-ltb i d above) refl
    ]

-- the bit that was written
pub written-bit : (words : List ℕ) (k word : ℕ) → k < 64 * length words → has_word_bit (set words (k / 64) word) k ≡ eqb (bit_at word (k % 64)) 1
unfolding has_word_bit
written-bit words k word below =
    let within : k / 64 < length words = omega arith in
    rw get_or-set_same refl

-- the others
pub kept-bit : (words : List ℕ) (k word : ℕ) → k < 64 * length words → ((i : ℕ) → i < 64 → (i ≡ k % 64 → ⊥) → bit_at word i ≡ bit_at (get_or words (k / 64) 0) i) →
    (b : ℕ) → (b ≡ k → ⊥) → has_word_bit (set words (k / 64) word) b ≡ has_word_bit words b
unfolding has_word_bit
kept-bit words k word below kept b apart =
    let within : k / 64 < length words = omega arith in
    elim (cases_eq (b / 64) (k / 64)) [
      | inl same ↦
          let other : b % 64 ≡ k % 64 → ⊥ = λ bits. apart (let e : b ≡ k = omega arith in e) in
          ap (λ n. eqb (bit_at (get_or (set words (k / 64) word) n 0) (b % 64)) 1) same
          ∙ (ap (λ n. eqb (bit_at n (b % 64)) 1) (rw get_or-set_same refl)
          ∙ (ap (λ n. eqb n 1) (kept (b % 64) (omega arith) other)
          ∙ ap (λ n. eqb (bit_at (get_or words n 0) (b % 64)) 1) (sym same)))
      | inr other ↦ ap (λ n. eqb (bit_at n (b % 64)) 1) (get_or-set_other words (k / 64) (b / 64) word 0 other)
    ]

-- no bit is set in words that are all zero
pub unset-bits : (words : List ℕ) → AreZero words → (k : ℕ) → has_word_bit words k ≡ false
unfolding has_word_bit
unset-bits words zeros k =
    let word : get_or words (k / 64) 0 ≡ 0 = elim (cases_lt (k / 64) (length words)) [
      | inl below ↦ zeros (k / 64) below
      | inr above ↦ get_or_past words (k / 64) 0 above
    ] in
    ap (λ n. eqb (bit_at n (k % 64)) 1) word ∙ ap (λ n. eqb n 1) (bit_at-zero (k % 64))

-- eight bytes as one word

-- bytes as one number, the low one first
word_value : List ℕ → ℕ
word_value [] = 0
word_value (b ∷ bytes) = word_value bytes * 2 ^ 8 + b

value-bits : (bytes : List ℕ) → ((i : ℕ) → get_or bytes i 0 < 2 ^ 8) → (i : ℕ) → eqb (bit_at (word_value bytes) i) 1 ≡ has_bit bytes i
unfolding has_bit word_value
value-bits [] fits i = ap (λ n. eqb n 1) (bit_at-zero i ∙ sym (bit_at-zero (i % 8)))
value-bits (b ∷ bytes) fits i =
    elim (cases_lt i 8) [
      | inl low ↦
          let byte : i / 8 ≡ 0 = omega arith in
          let bit : i % 8 ≡ i = omega arith in
          ap (λ n. eqb n 1) (bit_at_cat_low (word_value bytes) 8 b i low)
          ∙ sym (ap (λ n. eqb (bit_at (get_or (b ∷ bytes) n 0) (i % 8)) 1) byte ∙ ap (λ n. eqb (bit_at b n) 1) bit)
      | inr high ↦
          let byte : i / 8 ≡ suc ((i - 8) / 8) = omega arith in
          let bit : i % 8 ≡ (i - 8) % 8 = omega arith in
          ap (λ n. eqb n 1) (bit_at_cat_high (word_value bytes) 8 b i (fits 0) high)
          ∙ (value-bits bytes (λ j. fits (suc j)) (i - 8)
          ∙ sym (ap (λ n. eqb (bit_at (get_or (b ∷ bytes) n 0) (i % 8)) 1) byte ∙ ap (λ n. eqb (bit_at (get_or bytes ((i - 8) / 8) 0) n) 1) bit))
    ]

eight-value : (a b c d e f g h : ℕ) → from_le_bytes w64 (a ∷ b ∷ c ∷ d ∷ e ∷ f ∷ g ∷ h ∷ []) ≡ word_value (a ∷ b ∷ c ∷ d ∷ e ∷ f ∷ g ∷ h ∷ [])
unfolding word_value
eight-value a b c d e f g h =
    let sum : from_le_bytes w64 (a ∷ b ∷ c ∷ d ∷ e ∷ f ∷ g ∷ h ∷ []) ≡ a + b * 256 + c * 256 ^ 2 + d * 256 ^ 3 + e * 256 ^ 4 + f * 256 ^ 5 + g * 256 ^ 6 + h * 256 ^ 7 = refl in
    omega (arith, sum)

-- eight bytes of a row from a place on
abbrev pub eight_at : List ℕ → ℕ → List ℕ
eight_at bytes at =
    get_or bytes at 0 ∷ get_or bytes (at + 1) 0 ∷ get_or bytes (at + 2) 0 ∷ get_or bytes (at + 3) 0 ∷ get_or bytes (at + 4) 0 ∷ get_or bytes (at + 5) 0 ∷ get_or bytes (at + 6) 0 ∷ get_or bytes (at + 7) 0 ∷ []

eight-first : (xs : List ℕ) → 8 ≤ length xs → eight_at xs 0 ≡ take 8 xs
eight-first (a ∷ b ∷ c ∷ d ∷ e ∷ f ∷ g ∷ h ∷ xs) room = refl
eight-first xs room = absurd (omega arith)

pub eight-taken : (bytes : List ℕ) (at : ℕ) → at + 8 ≤ length bytes → eight_at bytes at ≡ take 8 (drop at bytes)
eight-taken bytes at room =
    let read : (k : ℕ) → get_or bytes (at + k) 0 ≡ get_or (drop at bytes) k 0 = λ k. sym (get_or-drop at bytes k 0) in
    let first : get_or bytes at 0 ≡ get_or (drop at bytes) 0 0 = (let e : at ≡ at + 0 = omega arith in ap (λ n. get_or bytes n 0) e ∙ read 0) in
    rw (first, read 1, read 2, read 3, read 4, read 5, read 6, read 7) (eight-first (drop at bytes) (omega (arith, length-drop at bytes)))

pub eight-bits : (bytes : List ℕ) (at i : ℕ) → at + 8 ≤ length bytes → ((k : ℕ) → get_or bytes k 0 < 2 ^ 8) → i < 64 → eqb (bit_at (from_le_bytes w64 (eight_at bytes at)) i) 1 ≡ has_bit bytes (8 * at + i)
unfolding has_bit
eight-bits bytes at i room fits below =
    let eight : List ℕ = take 8 (drop at bytes) in
    let there : (k : ℕ) → k < 8 → get_or eight k 0 ≡ get_or bytes (at + k) 0 = λ k low. get_or-take 8 (drop at bytes) k 0 low ∙ get_or-drop at bytes k 0 in
    let small : (k : ℕ) → get_or eight k 0 < 2 ^ 8 = λ k. elim (cases_lt k 8) [
      | inl low ↦ subst (λ b. b < 2 ^ 8) (sym (there k low)) (fits (at + k))
      | inr high ↦ subst (λ b. b < 2 ^ 8) (sym (get_or_past eight k 0 (omega (arith, length-take 8 (drop at bytes), length-drop at bytes)))) (omega arith)
    ] in
    let byte : (8 * at + i) / 8 ≡ at + i / 8 = omega arith in
    let bit : (8 * at + i) % 8 ≡ i % 8 = omega arith in
    ap (λ n. eqb (bit_at n i) 1) (eight-value (get_or bytes at 0) (get_or bytes (at + 1) 0) (get_or bytes (at + 2) 0) (get_or bytes (at + 3) 0) (get_or bytes (at + 4) 0) (get_or bytes (at + 5) 0) (get_or bytes (at + 6) 0) (get_or bytes (at + 7) 0))
    ∙ (ap (λ xs. eqb (bit_at (word_value xs) i) 1) (eight-taken bytes at room)
    ∙ (value-bits eight small i
    ∙ (ap (λ b. eqb (bit_at b (i % 8)) 1) (there (i / 8) (omega arith))
    ∙ sym (ap (λ n. eqb (bit_at (get_or bytes n 0) ((8 * at + i) % 8)) 1) byte ∙ ap (λ n. eqb (bit_at (get_or bytes (at + i / 8) 0) n) 1) bit))))

-- a word as eight bytes

bit-of_byte : (xs ys : List ℕ) (i j : ℕ) → i % 8 ≡ j % 8 → get_or xs (i / 8) 0 ≡ get_or ys (j / 8) 0 → has_bit xs i ≡ has_bit ys j
unfolding has_bit
bit-of_byte xs ys i j bit read = ap (λ b. eqb (bit_at b (i % 8)) 1) read ∙ ap (λ n. eqb (bit_at (get_or ys (j / 8) 0) n) 1) bit

pub le-fits : (n i : ℕ) → get_or (to_le_bytes w64 n) i 0 < 2 ^ 8
le-fits n zero = omega arith
le-fits n (suc zero) = omega arith
le-fits n (suc (suc zero)) = omega arith
le-fits n (suc (suc (suc zero))) = omega arith
le-fits n (suc (suc (suc (suc zero)))) = omega arith
le-fits n (suc (suc (suc (suc (suc zero))))) = omega arith
le-fits n (suc (suc (suc (suc (suc (suc zero)))))) = omega arith
le-fits n (suc (suc (suc (suc (suc (suc (suc zero))))))) = omega arith
le-fits n (suc (suc (suc (suc (suc (suc (suc (suc i)))))))) = omega arith

pub le-bits : (n k : ℕ) → n < 2 ^ 64 → has_bit (to_le_bytes w64 n) k ≡ eqb (bit_at n k) 1
le-bits n k small =
    sym (value-bits (to_le_bytes w64 n) (le-fits n) k)
    ∙ ap (λ m. eqb (bit_at m k) 1) (sym (eight-value (get_or (to_le_bytes w64 n) 0 0) (get_or (to_le_bytes w64 n) 1 0) (get_or (to_le_bytes w64 n) 2 0) (get_or (to_le_bytes w64 n) 3 0) (get_or (to_le_bytes w64 n) 4 0) (get_or (to_le_bytes w64 n) 5 0) (get_or (to_le_bytes w64 n) 6 0) (get_or (to_le_bytes w64 n) 7 0)) ∙ from_le_bytes-to_le_bytes_8 n small)

-- the bits of the bytes of two words
pub low-bytes : (low high k : ℕ) → low < 2 ^ 64 → k < 64 → has_bit (to_le_bytes w64 low ++ to_le_bytes w64 high) k ≡ eqb (bit_at low k) 1
low-bytes low high k small below =
    let read : get_or (to_le_bytes w64 low ++ to_le_bytes w64 high) (k / 8) 0 ≡ get_or (to_le_bytes w64 low) (k / 8) 0 = get_or_append_left (to_le_bytes w64 low) (to_le_bytes w64 high) 0 (k / 8) (omega arith) in
    bit-of_byte (to_le_bytes w64 low ++ to_le_bytes w64 high) (to_le_bytes w64 low) k k refl read ∙ le-bits low k small

pub high-bytes : (low high k : ℕ) → high < 2 ^ 64 → has_bit (to_le_bytes w64 low ++ to_le_bytes w64 high) (64 + k) ≡ eqb (bit_at high k) 1
high-bytes low high k small =
    let place : (64 + k) / 8 ≡ 8 + k / 8 = omega arith in
    let bit : (64 + k) % 8 ≡ k % 8 = omega arith in
    let read : get_or (to_le_bytes w64 low ++ to_le_bytes w64 high) ((64 + k) / 8) 0 ≡ get_or (to_le_bytes w64 high) (k / 8) 0 =
    ap (λ j. get_or (to_le_bytes w64 low ++ to_le_bytes w64 high) j 0) place ∙ get_or-append-add (to_le_bytes w64 low) (to_le_bytes w64 high) (k / 8) 0 in
    bit-of_byte (to_le_bytes w64 low ++ to_le_bytes w64 high) (to_le_bytes w64 high) (64 + k) k bit read ∙ le-bits high k small

-- one word of the bytes more
pub word-more : (words first bytes : List ℕ) (p v : ℕ) → p < length words → ((i : ℕ) → i < 64 → eqb (bit_at v i) 1 ≡ has_bit bytes (8 * (8 * p) + i)) →
    ((k : ℕ) → has_word_bit words k ≡ ((nat_lt k (64 * p) && has_bit bytes k) || has_word_bit first k)) → (k : ℕ) →
    has_word_bit (set words p (bit_or (get_or words p 0) v)) k ≡ ((nat_lt k (64 * (p + 1)) && has_bit bytes k) || has_word_bit first k)
word-more words first bytes p v within bits known k =
    one-more (eqb (k / 64) p) (nat_lt k (64 * p)) (nat_lt k (64 * (p + 1))) (eqb (bit_at v (k % 64)) 1) (has_bit bytes k) (has_word_bit words k) (has_word_bit (set words p (bit_or (get_or words p 0) v)) k) (has_word_bit first k)
    (λ here.
    let e : k / 64 ≡ p = eqb-true (k / 64) p here in
    let same : 8 * (8 * p) + k % 64 ≡ k = omega arith in
    (le-ltb k (64 * p) (omega arith), lt-ltb k (64 * (p + 1)) (omega arith), bits (k % 64) (omega arith) ∙ ap (has_bit bytes) same))
    (λ there.
    elim (cases_lt k (64 * p)) [
      | inl below ↦ rw (lt-ltb k (64 * p) below, lt-ltb k (64 * (p + 1)) (omega arith)) refl
      | inr above ↦
          elim (cases_eq (k / 64) p) [
            | inl e ↦ absurd (let f : true ≡ false = sym (eq-eqb (k / 64) p e) ∙ there in cc)
            | inr apart ↦ rw (le-ltb k (64 * p) above, le-ltb k (64 * (p + 1)) (let d : k / 64 ≢ p = apart in omega arith)) refl
          ]
    ]) (known k) (bits-united_word words p v k within)
