-- A word turned round, by changing neighbours.
use Rattle.std.proofs.Common.{◌≡◌, ℕ, zero, suc, ◌+◌, ◌-◌, ◌*◌, ◌/◌, ◌%◌, ◌^◌, ◌<◌, ◌≤◌, Bool, true, false, ◌&&◌, ◌||◌, eqb, nat_le, bit_and, bit_or, refl, sym, ap, ◌∙◌, inl, inr, arith}
use Rattle.std.specs.Prelude.{if◌then◌else◌, nat_lt, not}
use Rattle.std.proofs.lemmas.Bool.{cases_eq, cases_lt, le-leb, lt-leb}
use Rattle.hs_bits.specs.WordBits.{word_bit}
use Rattle.hs_bits.proofs.PlaceLemmas.{bit-both, bit-either, bit-shifted, bit-up, less}
use Rattle.hs_nodes.specs.Turning.{AreFirst, neighbour}

-- a test of all numbers below another
abbrev pub all_below : ℕ → (ℕ → Bool) → Bool
all_below zero test = true
all_below (suc n) test = test n && all_below n test

both-set : (a b : Bool) → (a && b) ≡ true → (a ≡ true) × (b ≡ true)
both-set true b both = (refl, both)
both-set false b both = absurd (let no : false ≡ true = both in cc)

pub below-test : (n : ℕ) (test : ℕ → Bool) → all_below n test ≡ true → (i : ℕ) → i < n → test i ≡ true
below-test zero test all i low = absurd (omega arith)
below-test (suc n) test all i low = elim (cases_eq i n) [
  | inl same ↦ ap test same ∙ (both-set (test n) (all_below n test) all).0
  | inr apart ↦ below-test n test (both-set (test n) (all_below n test) all).1 i (omega (arith, low, apart))
]

-- whether a mask has the first ones of neighbours, at a place
abbrev pub is_right : (count mask : ℕ) → ℕ → Bool
is_right count mask i = if word_bit mask i then nat_lt (i + count) 64 && not (nat_le count i && word_bit mask (i - count)) else nat_le count i && word_bit mask (i - count)

less-or : (a b : ℕ) → nat_le a b ≡ true → a ≤ b
less-or a b is = elim (cases_lt b a) [
  | inl low ↦ absurd (let both : true ≡ false = sym is ∙ lt-leb a b low in cc)
  | inr high ↦ high
]

not-both : (a b : Bool) → not (a && b) ≡ true → a ≡ true → b ≡ false
not-both true true none set = absurd (let no : false ≡ true = none in cc)
not-both true false none set = refl
not-both false b none set = absurd (let no : false ≡ true = set in cc)

right-first : (count mask i : ℕ) (set : Bool) → word_bit mask i ≡ set → is_right count mask i ≡ true → set ≡ true → (i + count < 64) × (count ≤ i → word_bit mask (i - count) ≡ false)
right-first count mask i false is right set = absurd (let no : false ≡ true = set in cc)
right-first count mask i true is right set =
    let own = ap (λ (b : Bool). if b then nat_lt (i + count) 64 && not (nat_le count i && word_bit mask (i - count)) else nat_le count i && word_bit mask (i - count)) (sym is) ∙ right in
    let parts = both-set (nat_lt (i + count) 64) (not (nat_le count i && word_bit mask (i - count))) own in
    (less (i + count) 64 parts.0, λ high. not-both (nat_le count i) (word_bit mask (i - count)) parts.1 (le-leb count i high))

right-second : (count mask i : ℕ) (set : Bool) → word_bit mask i ≡ set → is_right count mask i ≡ true → set ≡ false → (count ≤ i) × (word_bit mask (i - count) ≡ true)
right-second count mask i true is right none = absurd (let no : true ≡ false = none in cc)
right-second count mask i false is right none =
    let own = ap (λ (b : Bool). if b then nat_lt (i + count) 64 && not (nat_le count i && word_bit mask (i - count)) else nat_le count i && word_bit mask (i - count)) (sym is) ∙ right in
    let parts = both-set (nat_le count i) (word_bit mask (i - count)) own in
    (less-or count i parts.0, parts.1)

first-by : (count mask : ℕ) → all_below 64 (is_right count mask) ≡ true → AreFirst count mask
first-by count mask all = record {
  first = λ i low set. right-first count mask i (word_bit mask i) refl (below-test 64 (is_right count mask) all i low) set;
  second = λ i low none. right-second count mask i (word_bit mask i) refl (below-test 64 (is_right count mask) all i low) none;
}

pub first-bits : AreFirst 1 6148914691236517205
unfolding word_bit
first-bits = first-by 1 6148914691236517205 refl

pub first-pairs : AreFirst 2 3689348814741910323
unfolding word_bit
first-pairs = first-by 2 3689348814741910323 refl

pub first-halves : AreFirst 4 1085102592571150095
unfolding word_bit
first-halves = first-by 4 1085102592571150095 refl

pub first-bytes : AreFirst 8 71777214294589695
unfolding word_bit
first-bytes = first-by 8 71777214294589695 refl

pub first-twos : AreFirst 16 281470681808895
unfolding word_bit
first-twos = first-by 16 281470681808895 refl

pub first-fours : AreFirst 32 4294967295
unfolding word_bit
first-fours = first-by 32 4294967295 refl

-- one change

from-first : (a m b c d : Bool) → m ≡ true → (b ≡ true → d ≡ false) → ((a && m) || (b && (c && d))) ≡ a
from-first true true b c d set none = refl
from-first false true false c d set none = refl
from-first false true true c true set none = absurd (let no : true ≡ false = none refl in cc)
from-first false true true true false set none = refl
from-first false true true false false set none = refl
from-first a false b c d set none = absurd (let no : false ≡ true = set in cc)

from-second : (a m b c d : Bool) → m ≡ false → b ≡ true → d ≡ true → ((a && m) || (b && (c && d))) ≡ c
from-second true false true true true none set set' = refl
from-second true false true false true none set set' = refl
from-second false false true true true none set set' = refl
from-second false false true false true none set set' = refl
from-second a true b c d none set set' = absurd (let no : true ≡ false = none in cc)
from-second a false false c d none set set' = absurd (let no : false ≡ true = set in cc)
from-second a false true c false none set set' = absurd (let no : false ≡ true = set' in cc)

module _ (word count mask : ℕ) (are : AreFirst count mask) where
  abbrev pub changed : ℕ
  changed = bit_or (bit_and (word / 2 ^ count) mask) (bit_and word mask * 2 ^ count % 18446744073709551616)

  parts : (i : ℕ) → i < 64 → word_bit changed i ≡ ((word_bit word (count + i) && word_bit mask i) || (nat_le count i && (word_bit word (i - count) && word_bit mask (i - count))))
  parts i low =
      bit-either (bit_and (word / 2 ^ count) mask) (bit_and word mask * 2 ^ count % 18446744073709551616) i
      ∙ (ap (λ b. b || word_bit (bit_and word mask * 2 ^ count % 18446744073709551616) i) (bit-both (word / 2 ^ count) mask i ∙ ap (λ b. b && word_bit mask i) (bit-shifted word count i))
      ∙ ap (λ b. (word_bit word (count + i) && word_bit mask i) || b) (bit-up (bit_and word mask) count i low ∙ ap (λ b. nat_le count i && b) (bit-both word mask (i - count))))

  by-bit : (i : ℕ) → i < 64 → (set : Bool) → word_bit mask i ≡ set → word_bit changed i ≡ word_bit word (if set then i + count else i - count)
  by-bit i low true is =
      let own = are.first i low is in
      let same : count + i ≡ i + count = omega arith in
      parts i low ∙ (from-first (word_bit word (count + i)) (word_bit mask i) (nat_le count i) (word_bit word (i - count)) (word_bit mask (i - count)) is (λ high. own.1 (less-or count i high)) ∙ ap (word_bit word) same)
  by-bit i low false is =
      let own = are.second i low is in
      parts i low ∙ from-second (word_bit word (count + i)) (word_bit mask i) (nat_le count i) (word_bit word (i - count)) (word_bit mask (i - count)) is (le-leb count i own.0) own.1

  pub changed-bit : (i : ℕ) → i < 64 → word_bit changed i ≡ word_bit word (neighbour count mask i)
  changed-bit i low = by-bit i low (word_bit mask i) refl

pub neighbour-below : (count mask : ℕ) → AreFirst count mask → (i : ℕ) → i < 64 → neighbour count mask i < 64
neighbour-below count mask are i low = by (word_bit mask i) refl where
  by : (set : Bool) → word_bit mask i ≡ set → (if set then i + count else i - count) < 64
  by true is = (are.first i low is).0
  by false is = omega (arith, low)

-- all changes

abbrev pub twos : ℕ → ℕ
twos i = neighbour 16 281470681808895 (neighbour 32 4294967295 i)

abbrev pub bytes : ℕ → ℕ
bytes i = neighbour 8 71777214294589695 (twos i)

abbrev pub halves : ℕ → ℕ
halves i = neighbour 4 1085102592571150095 (bytes i)

abbrev pub pairs : ℕ → ℕ
pairs i = neighbour 2 3689348814741910323 (halves i)

abbrev pub bits : ℕ → ℕ
bits i = neighbour 1 6148914691236517205 (pairs i)

all-turned : all_below 64 (λ i. eqb (bits i) (63 - i)) ≡ true
unfolding word_bit
all-turned = refl

equal-is : (a b : ℕ) → eqb a b ≡ true → a ≡ b
equal-is a b is = grind arith

turned-place : (i : ℕ) → i < 64 → bits i ≡ 63 - i
turned-place i low = equal-is (bits i) (63 - i) (below-test 64 (λ j. eqb (bits j) (63 - j)) all-turned i low)

pub turned-bit : (word a b c d e f : ℕ) → ((i : ℕ) → i < 64 → word_bit a i ≡ word_bit word (neighbour 1 6148914691236517205 i)) → ((i : ℕ) → i < 64 → word_bit b i ≡ word_bit a (neighbour 2 3689348814741910323 i)) → ((i : ℕ) → i < 64 → word_bit c i ≡ word_bit b (neighbour 4 1085102592571150095 i)) →
    ((i : ℕ) → i < 64 → word_bit d i ≡ word_bit c (neighbour 8 71777214294589695 i)) → ((i : ℕ) → i < 64 → word_bit e i ≡ word_bit d (neighbour 16 281470681808895 i)) → ((i : ℕ) → i < 64 → word_bit f i ≡ word_bit e (neighbour 32 4294967295 i)) → (i : ℕ) → i < 64 → word_bit f i ≡ word_bit word (63 - i)
turned-bit word a b c d e f is_a is_b is_c is_d is_e is_f i low =
    let low_e = neighbour-below 32 4294967295 first-fours i low in
    let low_d = neighbour-below 16 281470681808895 first-twos (neighbour 32 4294967295 i) low_e in
    let low_c = neighbour-below 8 71777214294589695 first-bytes (twos i) low_d in
    let low_b = neighbour-below 4 1085102592571150095 first-halves (bytes i) low_c in
    let low_a = neighbour-below 2 3689348814741910323 first-pairs (halves i) low_b in
    is_f i low ∙ (is_e (neighbour 32 4294967295 i) low_e ∙ (is_d (twos i) low_d ∙ (is_c (bytes i) low_c ∙ (is_b (halves i) low_b ∙ (is_a (pairs i) low_a ∙ ap (word_bit word) (turned-place i low))))))
