-- Bits of one word.
use Rattle.std.proofs.Common.{◌≡◌, ℕ, suc, ◌+◌, ◌-◌, ◌*◌, ◌/◌, ◌%◌, ◌^◌, ◌<◌, ◌≤◌, Bool, true, false, nat_lt, ◌&&◌, ◌||◌, eqb, refl, sym, ap, ◌∙◌, inl, inr, arith, bit_or, bit_and, w64}
use Rattle.std.specs.Prelude.{nat_le}
use Rattle.std.specs.Int.{bit_at}
use Rattle.std.proofs.lemmas.Bool.{cases_eq, cases_lt, eq-eqb, ne_eqb}
use Rattle.std.proofs.lemmas.Bool.Decides.{nat_tests}
use Rattle.std.proofs.lemmas.Nat.{shr-shr}
use Rattle.std.proofs.lemmas.Nat.Bits.{bit_at-zero, bit_at_ones, bit_at_ones_above, ones_shr, bit_at_set_same, bit_at_set_other}
use Rattle.std.proofs.Math.Nat.{zero-mul}
use Rattle.hs_base.proofs.ByteSetLemmas.{bit-or}
use Rattle.hs_base.proofs.ContextSetLemmas.{bit-and, bit-one}
use Rattle.hs_bits.proofs.WordLemmas.{or-none, shl-bit}
use Rattle.hs_bits.specs.LowestBits.{IsLowestBit}
use Rattle.hs_bits.specs.WordBits.{word_bit}
use mir.Val.{bool_byte}

pub bit-none : (i : ℕ) → word_bit 0 i ≡ false
unfolding word_bit
bit-none i = ap (λ n. eqb n 1) (bit_at-zero i)

pub or-false : (a b : Bool) → ((a && false) || b) ≡ b
or-false true b = refl
or-false false b = refl

pub bit-placed : (word place : ℕ) (value : Bool) → place < 64 → (i : ℕ) →
    word_bit (bit_or word (bool_byte value * 2 ^ place % 18446744073709551616)) i ≡ ((eqb i place && value) || word_bit word i)
unfolding word_bit
bit-placed word place false below i =
    ap (λ n. eqb (bit_at (bit_or word n) i) 1) (ap (λ n. n % 18446744073709551616) (zero-mul (2 ^ place))) ∙ bit-or word 0 i ∙ (ap (λ n. (eqb (bit_at word i) 1 || eqb n 1)) (bit_at-zero i) ∙ (or-none (eqb (bit_at word i) 1) ∙ sym (or-false (eqb i place) (eqb (bit_at word i) 1))))
bit-placed word place true below i =
    elim (cases_eq i place) [
      | inl same ↦ rw (same, bit_at_set_same w64 word place below, eq-eqb place place refl) refl
      | inr apart ↦ rw (bit_at_set_other w64 word place below i apart, ne_eqb i place apart) refl
    ]

pub bit-shifted : (word from i : ℕ) → word_bit (word / 2 ^ from) i ≡ word_bit word (from + i)
unfolding word_bit
bit-shifted word from i = ap (λ m. eqb (m % 2) 1) (shr-shr word from i)

pub none-from : (word from : ℕ) → word / 2 ^ from ≡ 0 → (i : ℕ) → from ≤ i → word_bit word i ≡ false
none-from word from none i low =
    let e : from + (i - from) ≡ i = omega arith in
    sym (ap (λ k. word_bit word k) e) ∙ (sym (bit-shifted word from (i - from)) ∙ (ap (λ w. word_bit w (i - from)) none ∙ bit-none (i - from)))

pub none-before : (word from place : ℕ) → IsLowestBit (word / 2 ^ from) place → (i : ℕ) → from ≤ i → i < from + place → word_bit word i ≡ false
unfolding word_bit
none-before word from place lowest i low high =
    let e : from + (i - from) ≡ i = omega arith in
    let unset : bit_at (word / 2 ^ from) (i - from) ≡ 0 = lowest.lowest (i - from) (omega arith) in
    sym (ap (λ k. eqb (bit_at word k) 1) e) ∙ (sym (ap (λ m. eqb (m % 2) 1) (shr-shr word from (i - from))) ∙ ap (λ n. eqb n 1) unset)

pub set-there : (word from place : ℕ) → IsLowestBit (word / 2 ^ from) place → word_bit word (from + place) ≡ true
unfolding word_bit
set-there word from place lowest = sym (ap (λ m. eqb (m % 2) 1) (shr-shr word from place)) ∙ ap (λ n. eqb n 1) lowest.is

-- the place of the lowest bit is further, where that of the beginning isn't set
pub further : (word from place : ℕ) → IsLowestBit (word / 2 ^ from) place → word_bit word from ≡ false → 0 < place
unfolding word_bit
further word from place lowest unset =
    elim (cases_eq place 0) [
      | inl zero_is ↦
          let set : bit_at (word / 2 ^ from) 0 ≡ 1 = ap (λ k. bit_at (word / 2 ^ from) k) (sym zero_is) ∙ lowest.is in
          let there : bit_at word from ≡ 1 = sym (ap (λ m. m % 2) (shr-shr word from 0) ∙ ap (λ k. bit_at word k) (let e : from + 0 ≡ from = omega arith in e)) ∙ set in
          absurd (let f : true ≡ false = sym (ap (λ n. eqb n 1) there) ∙ unset in cc)
      | inr apart ↦ omega arith
    ]

-- numbers below another, as they are tested
pub less : (k n : ℕ) → nat_lt k n ≡ true → k < n
less k n is = grind (arith, nat_tests)

pub less-is : (k n : ℕ) → k < n → nat_lt k n ≡ true
less-is k n below = grind (arith, nat_tests)

pub not-less : (k n : ℕ) → n ≤ k → nat_lt k n ≡ false
not-less k n above = grind (arith, nat_tests)

-- the lowest bits

pub low-none : (count i : ℕ) → count ≡ 0 → word_bit 0 i ≡ nat_lt i count
low-none count i none = bit-none i ∙ sym (not-less i count (omega arith))

pub low-some : (count i : ℕ) → count ≤ 64 → word_bit (18446744073709551615 / 2 ^ (64 - count)) i ≡ nat_lt i count
unfolding word_bit
low-some count i few =
    let ones : (2 ^ 64 - 1) / 2 ^ (64 - count) ≡ 2 ^ (64 - (64 - count)) - 1 = ones_shr 64 (64 - count) (omega arith) in
    let e : 64 - (64 - count) ≡ count = omega arith in
    ap (λ w. eqb (bit_at w i) 1) (ones ∙ ap (λ k. 2 ^ k - 1) e)
    ∙ elim (cases_lt i count) [
      | inl below ↦ ap (λ b. eqb b 1) (bit_at_ones count i below) ∙ sym (less-is i count below)
      | inr above ↦ ap (λ b. eqb b 1) (bit_at_ones_above count i above) ∙ sym (not-less i count above)
    ]

-- words by their bits

pub bit-both : (x y i : ℕ) → word_bit (bit_and x y) i ≡ (word_bit x i && word_bit y i)
unfolding word_bit
bit-both x y i = bit-and x y i

pub bit-either : (x y i : ℕ) → word_bit (bit_or x y) i ≡ (word_bit x i || word_bit y i)
unfolding word_bit
bit-either x y i = bit-or x y i

pub bit-up : (x d i : ℕ) → i < 64 → word_bit (x * 2 ^ d % 18446744073709551616) i ≡ (nat_le d i && word_bit x (i - d))
unfolding word_bit
bit-up x d i below = shl-bit x d i below

-- a word one place on

start-byte : (start : Bool) → word_bit (bool_byte start) 0 ≡ start
unfolding word_bit
start-byte true = refl
start-byte false = refl

later-byte : (start : Bool) (i : ℕ) → word_bit (bool_byte start) (suc i) ≡ false
unfolding word_bit
later-byte true i = bit-one 0 (suc i) ∙ ne_eqb (suc i) 0 (λ e. absurd (omega arith))
later-byte false i = bit-none (suc i)

pub later-first : (behind : ℕ) (start : Bool) → word_bit (bit_or (behind * 2 % 18446744073709551616) (bool_byte start)) 0 ≡ start
later-first behind start =
    bit-either (behind * 2 % 18446744073709551616) (bool_byte start) 0
    ∙ (ap (λ b. b || word_bit (bool_byte start) 0) (bit-up behind 1 0 (omega arith)) ∙ start-byte start)

pub later-next : (behind : ℕ) (start : Bool) (i : ℕ) → suc i < 64 → word_bit (bit_or (behind * 2 % 18446744073709551616) (bool_byte start)) (suc i) ≡ word_bit behind i
later-next behind start i below =
    let place : suc i - 1 ≡ i = omega arith in
    let low : nat_le 1 (suc i) ≡ true = grind (arith, nat_tests) in
    let up : word_bit (behind * 2 % 18446744073709551616) (suc i) ≡ word_bit behind i =
    bit-up behind 1 (suc i) below ∙ (ap (λ b. b && word_bit behind (suc i - 1)) low ∙ ap (word_bit behind) place) in
    bit-either (behind * 2 % 18446744073709551616) (bool_byte start) (suc i)
    ∙ (ap (λ b. b || word_bit (bool_byte start) (suc i)) up ∙ (ap (λ b. word_bit behind i || b) (later-byte start i) ∙ or-none (word_bit behind i)))

-- a bit that is set in both words, and one that isn't
and-first : (a b : Bool) → (a && b) ≡ true → a ≡ true
and-first true b e = refl
and-first false b e = e

pub both-first : (x y i : ℕ) → word_bit (bit_and x y) i ≡ true → word_bit x i ≡ true
both-first x y i set = and-first (word_bit x i) (word_bit y i) (sym (bit-both x y i) ∙ set)

pub both-unset : (x y i : ℕ) → word_bit (bit_and x y) i ≡ false → word_bit x i ≡ true → word_bit y i ≡ false
both-unset x y i unset first = sym (ap (λ t. t && word_bit y i) first) ∙ (sym (bit-both x y i) ∙ unset)

-- where the first word has the bit and both haven't, no member stands
pub no-member-there : (enters places i count : ℕ) (member : Bool) → i < count → word_bit enters i ≡ true → word_bit (bit_and enters places) i ≡ false →
    eqb (bit_at places i) 1 ≡ (nat_lt i count && member) → member ≡ false
unfolding word_bit
no-member-there enters places i count member below entered unset is =
    sym (ap (λ t. t && member) (less-is i count below)) ∙ (sym is ∙ both-unset enters places i unset entered)

-- the bit of a place within is whether a member stands there
pub member-bit : (places i count : ℕ) (member : Bool) → i < count → eqb (bit_at places i) 1 ≡ (nat_lt i count && member) → word_bit places i ≡ member
unfolding word_bit
member-bit places i count member below is = is ∙ ap (λ t. t && member) (less-is i count below)
