-- How many bits of a word are set.
use Rattle.std.proofs.Common.{◌≡◌, ℕ, zero, suc, ◌+◌, ◌-◌, ◌/◌, ◌%◌, ◌^◌, ◌<◌, ◌≤◌, Bool, true, false, ◌&&◌, nat_lt, bit_and, count_ones, eqb, pow-suc, refl, sym, ap, ◌∙◌, arith, zero-add}
use Rattle.std.specs.Prelude.{if◌then◌else◌}
use Rattle.std.proofs.lemmas.Nat.{ones_le_self, and_le_r}
use Rattle.hs_bits.specs.WordBits.{word_bit, count_below, count_set}
use Rattle.hs_bits.proofs.BlockLemmas.{count-same}
use Rattle.hs_bits.proofs.PlaceLemmas.{bit-both, bit-shifted, less-is, not-less}
use lib.Count.{ones_step}

-- the first one apart
count-first : (n : ℕ) (f : ℕ → Bool) → count_below (suc n) f ≡ (if f 0 then 1 else 0) + count_below n (λ i. f (suc i))
count-first zero f = refl
count-first (suc n) f = let before : count_below (suc n) f ≡ (if f 0 then 1 else 0) + count_below n (λ i. f (suc i)) = count-first n f in omega (arith, before)

bit-later : (word i : ℕ) → word_bit word (suc i) ≡ word_bit (word / 2) i
bit-later word i = let e : suc i ≡ 1 + i = omega arith in ap (word_bit word) e ∙ sym (bit-shifted word 1 i)

one-of : (n : ℕ) → n < 2 → n ≡ (if eqb n 1 then 1 else 0)
one-of zero below = refl
one-of (suc zero) below = refl
one-of (suc (suc n)) below = absurd (omega arith)

bit-lowest : (word : ℕ) → word % 2 ≡ (if word_bit word 0 then 1 else 0)
unfolding word_bit
bit-lowest word = let e : word % 2 ≡ word / 2 ^ 0 % 2 = omega arith in one-of (word % 2) (omega arith) ∙ ap (λ n. if eqb n 1 then 1 else 0) e

-- the ones of a word are its bits that are set
ones-are : (n word : ℕ) → word < 2 ^ n → count_ones word ≡ count_below n (word_bit word)
ones-are zero word small = omega (arith, ones_le_self word)
ones-are (suc n) word small =
    let half : count_ones (word / 2) ≡ count_below n (word_bit (word / 2)) = ones-are n (word / 2) (omega (arith, pow-suc 2 n)) in
    let others : count_below n (λ i. word_bit word (suc i)) ≡ count_below n (word_bit (word / 2)) =
    count-same n (λ i. word_bit word (suc i)) (word_bit (word / 2)) (λ i low. bit-later word i) in
    omega (arith, ones_step word, half, others, bit-lowest word, count-first n (word_bit word))

-- none is set from some place on
count-cut : (d k : ℕ) (f : ℕ → Bool) → ((i : ℕ) → k ≤ i → f i ≡ false) → count_below (k + d) f ≡ count_below k f
count-cut zero k f none = let e : k + 0 ≡ k = omega arith in ap (λ n. count_below n f) e
count-cut (suc d) k f none =
    let e : k + suc d ≡ suc (k + d) = omega arith in
    ap (λ n. count_below n f) e ∙ (ap (λ b. (if b then 1 else 0) + count_below (k + d) f) (none (k + d) (omega arith)) ∙ (zero-add (count_below (k + d) f) ∙ count-cut d k f none))

and-true : (b : Bool) → (b && true) ≡ b
and-true true = refl
and-true false = refl

and-false : (b : Bool) → (b && false) ≡ false
and-false true = refl
and-false false = refl

-- the ones of the part of a word from one place on and before another
ones-between : (word from end bits : ℕ) → bits < 2 ^ 64 → end ≤ 64 → ((i : ℕ) → word_bit bits i ≡ (word_bit word (from + i) && nat_lt i (end - from))) → count_ones bits ≡ count_set word from end
ones-between word from end bits small few is =
    let n : ℕ = end - from in
    let e : 64 ≡ n + (64 - n) = omega arith in
    ones-are 64 bits small
    ∙ (ap (λ k. count_below k (word_bit bits)) e
    ∙ (count-cut (64 - n) n (word_bit bits) (λ i high. is i ∙ (ap (λ b. word_bit word (from + i) && b) (not-less i n high) ∙ and-false (word_bit word (from + i))))
    ∙ count-same n (word_bit bits) (λ i. word_bit word (from + i)) (λ i low. is i ∙ (ap (λ b. word_bit word (from + i) && b) (less-is i n low) ∙ and-true (word_bit word (from + i))))))

pub ones-of-part : (word from end low : ℕ) → low < 18446744073709551616 → end ≤ 64 → ((i : ℕ) → word_bit low i ≡ nat_lt i (end - from)) → count_ones (bit_and (word / 2 ^ from) low) ≡ count_set word from end
ones-of-part word from end low small few is =
    ones-between word from end (bit_and (word / 2 ^ from) low) (omega (arith, and_le_r (word / 2 ^ from) low)) few
    (λ i. bit-both (word / 2 ^ from) low i ∙ (ap (λ b. b && word_bit low i) (bit-shifted word from i) ∙ ap (λ b. word_bit word (from + i) && b) (is i)))

-- the ones of a word that has none from some place on
pub ones-of_whole : (word count : ℕ) → word < 2 ^ 64 → count ≤ 64 → ((i : ℕ) → count ≤ i → word_bit word i ≡ false) → count_ones word ≡ count_below count (word_bit word)
ones-of_whole word count small few none =
    let e : 64 ≡ count + (64 - count) = omega arith in
    ones-are 64 word small ∙ (ap (λ k. count_below k (word_bit word)) e ∙ count-cut (64 - count) count (word_bit word) none)
