-- The words of literals.
use Rattle.std.proofs.Common.{◌≡◌, ℕ, suc, ◌+◌, ◌-◌, ◌*◌, ◌/◌, ◌%◌, ◌^◌, ◌<◌, ◌≤◌, Bool, true, false, nat_lt, ◌&&◌, ◌||◌, List, eqb, sym, ap, ◌∙◌, inl, inr, arith, bit_or, bit_and}
use Rattle.std.specs.Prelude.{if◌then◌else◌, nat_le}
use Rattle.std.proofs.lemmas.Bool.{cases_eq, cases_lt, eq-eqb, ne_eqb}
use Rattle.std.proofs.lemmas.Bool.Decides.{nat_tests}
use Rattle.hs_base.specs.LiteralRows.{TellsEntries}
use Rattle.hs_bits.proofs.WordLemmas.{and-true, and-none, or-none}
use Rattle.hs_bits.specs.WordBits.{word_bit}
use Rattle.hs_block.specs.LiteralBlocks.{turned, was_entered}
use Rattle.hs_bits.proofs.PlaceLemmas.{bit-both, bit-either, bit-up, bit-shifted, less-is, not-less}

pub was-inside : (n enters carry place : ℕ) → place < n → was_entered n enters carry place ≡ word_bit carry place
was-inside n enters carry place below = ap (λ b. if b then word_bit carry place else word_bit enters (place - n)) (less-is place n below)

pub was-behind : (n enters carry place : ℕ) → n ≤ place → was_entered n enters carry place ≡ word_bit enters (place - n)
was-behind n enters carry place above = ap (λ b. if b then word_bit carry place else word_bit enters (place - n)) (not-less place n above)

-- where a literal was entered so many bytes before, from a place on

pub entries-near : (len enters carry from low i : ℕ) → from < len → ((k : ℕ) → word_bit low k ≡ nat_lt k (len - from)) → i < 64 →
    word_bit (bit_or (enters * 2 ^ (len - from) % 18446744073709551616) (bit_and (carry / 2 ^ from) low)) i ≡ was_entered len enters carry (from + i)
entries-near len enters carry from low i near lowest below =
    let d : ℕ = len - from in
    let up : word_bit (enters * 2 ^ d % 18446744073709551616) i ≡ (nat_le d i && word_bit enters (i - d)) = bit-up enters d i below in
    let kept : word_bit (bit_and (carry / 2 ^ from) low) i ≡ (word_bit carry (from + i) && nat_lt i d) =
    bit-both (carry / 2 ^ from) low i ∙ (ap (λ b. b && word_bit low i) (bit-shifted carry from i) ∙ ap (λ b. word_bit carry (from + i) && b) (lowest i)) in
    bit-either (enters * 2 ^ d % 18446744073709551616) (bit_and (carry / 2 ^ from) low) i
    ∙ (ap (λ b. b || word_bit (bit_and (carry / 2 ^ from) low) i) up
    ∙ (ap (λ b. (nat_le d i && word_bit enters (i - d)) || b) kept
    ∙ elim (cases_lt i d) [
      | inl inside ↦
          let under : nat_le d i ≡ false = grind (arith, nat_tests) in
          ap (λ b. (b && word_bit enters (i - d)) || (word_bit carry (from + i) && nat_lt i d)) under
          ∙ (ap (λ b. word_bit carry (from + i) && b) (less-is i d inside) ∙ (and-true (word_bit carry (from + i)) ∙ sym (was-inside len enters carry (from + i) (omega arith))))
      | inr behind ↦
          let over : nat_le d i ≡ true = grind (arith, nat_tests) in
          let place : i - d ≡ from + i - len = omega arith in
          ap (λ b. (b && word_bit enters (i - d)) || (word_bit carry (from + i) && nat_lt i d)) over
          ∙ (ap (λ b. word_bit enters (i - d) || (word_bit carry (from + i) && b)) (not-less i d behind)
          ∙ (ap (λ b. word_bit enters (i - d) || b) (and-none (word_bit carry (from + i)))
          ∙ (or-none (word_bit enters (i - d)) ∙ (ap (word_bit enters) place ∙ sym (was-behind len enters carry (from + i) (omega arith))))))
    ]))

pub entries-far : (len enters carry from i : ℕ) → len ≤ from → word_bit (enters / 2 ^ (from - len)) i ≡ was_entered len enters carry (from + i)
entries-far len enters carry from i far =
    let place : from - len + i ≡ from + i - len = omega arith in
    bit-shifted enters (from - len) i ∙ (ap (word_bit enters) place ∙ sym (was-behind len enters carry (from + i) (omega arith)))

-- the bits that are kept

-- the same bits below n, and none from there on, tell the same
pub entries-same : (n : ℕ) (bit bit' : ℕ → Bool) (u : List ℕ) (entered : List Bool) → ((k : ℕ) → k < n → bit k ≡ bit' k) → ((k : ℕ) → n ≤ k → bit' k ≡ false) →
    TellsEntries n bit u entered → TellsEntries n bit' u entered
entries-same n bit bit' u entered same none tells k = (
  λ set.
      elim (cases_lt k n) [
        | inl below ↦ (tells k).0 (same k below ∙ set)
        | inr above ↦ absurd (let e : false ≡ true = sym (none k above) ∙ set in cc)
      ],
  λ back. sym (same k back.below) ∙ (tells k).1 back,
)

pub turned-above : (n : ℕ) (bit : ℕ → Bool) (k : ℕ) → n ≤ k → turned n bit k ≡ false
turned-above n bit k above = ap (λ b. b && bit (n - suc k)) (not-less k n above)

pub turned-below : (n : ℕ) (bit : ℕ → Bool) (k : ℕ) → k < n → turned n bit k ≡ bit (n - suc k)
turned-below n bit k below = ap (λ b. b && bit (n - suc k)) (less-is k n below)

-- turned round twice they are the same
pub turned-twice : (n word : ℕ) (bit : ℕ → Bool) → ((i : ℕ) → word_bit word i ≡ turned n bit i) → (k : ℕ) → k < n → bit k ≡ turned n (word_bit word) k
turned-twice n word bit is k below =
    let back : n - suc (n - suc k) ≡ k = omega arith in
    sym (ap bit back) ∙ (sym (turned-below n bit (n - suc k) (omega arith)) ∙ (sym (is (n - suc k)) ∙ sym (turned-below n (word_bit word) k below)))

-- two words, of which the lowest bits are kept

pub words-below : (low x y count i : ℕ) (a b : Bool) → ((k : ℕ) → word_bit low k ≡ nat_lt k count) → i < count → word_bit x i ≡ a → word_bit y i ≡ b → word_bit (bit_and low (bit_and x y)) i ≡ (a && b)
words-below low x y count i a b lowest below one other =
    bit-both low (bit_and x y) i
    ∙ (ap (λ t. t && word_bit (bit_and x y) i) (lowest i ∙ less-is i count below) ∙ (bit-both x y i ∙ (ap (λ t. t && word_bit y i) one ∙ ap (λ t. a && t) other)))

pub words-above : (low x count i : ℕ) → ((k : ℕ) → word_bit low k ≡ nat_lt k count) → count ≤ i → word_bit (bit_and low x) i ≡ false
words-above low x count i lowest above = bit-both low x i ∙ ap (λ t. t && word_bit x i) (lowest i ∙ not-less i count above)
