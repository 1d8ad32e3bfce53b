-- The bits of a step.
use Rattle.std.proofs.Common.{◌≡◌, ℕ, ◌+◌, ◌*◌, ◌/◌, ◌%◌, ◌<◌, Bool, true, false, eqb, refl, ap, ◌∙◌, arith}
use Rattle.std.specs.Int.{bit_at}
use Rattle.hs_bits.specs.WordBits.{word_bit}
use Rattle.hs_pool.specs.Rows.{IsStepTo}
use Rattle.hs_engine.specs.declared.ends.ByteEnds.{ByteEnds}
use Rattle.std.proofs.lemmas.Nat.Bits.{bit_at-zero}
use mir.Val.{bool_byte}

first-bit : (n x y : ℕ) → y < 2 → bit_at (4 * n + 2 * x + y) 0 ≡ y
first-bit n x y small = let e : (4 * n + 2 * x + y) / 1 % 2 ≡ y = omega (arith, small) in e

second-bit : (n x y : ℕ) → x < 2 → y < 2 → bit_at (4 * n + 2 * x + y) 1 ≡ x
second-bit n x y small few = let e : (4 * n + 2 * x + y) / 2 % 2 ≡ x = omega (arith, small, few) in e

one-bit : (b : Bool) → eqb (bool_byte b) 1 ≡ b
one-bit true = refl
one-bit false = refl

bool-small : (b : Bool) → bool_byte b < 2
bool-small true = omega arith
bool-small false = omega arith

set-first : (n : ℕ) (x y : Bool) → word_bit (4 * n + 2 * bool_byte x + bool_byte y) 0 ≡ y
unfolding word_bit
set-first n x y = ap (λ b. eqb b 1) (first-bit n (bool_byte x) (bool_byte y) (bool-small y)) ∙ one-bit y

set-second : (n : ℕ) (x y : Bool) → word_bit (4 * n + 2 * bool_byte x + bool_byte y) 1 ≡ x
unfolding word_bit
set-second n x y = ap (λ b. eqb b 1) (second-bit n (bool_byte x) (bool_byte y) (bool-small x) (bool-small y)) ∙ one-bit x

both : (a b c d : Bool) → a ≡ c → b ≡ d → ◌≡◌ {A = ByteEnds} (record { before = a; behind = b }) (record { before = c; behind = d })
both a b c d e f = (λ i. record { before = e i; behind = f i })

pub step-is : (next : ℕ) (ends : ByteEnds) → IsStepTo (4 * next + 2 * bool_byte ends.behind + bool_byte ends.before) next ends
step-is next ends = record {
  next_is =
      let x = bool-small ends.behind in
      let y = bool-small ends.before in
      omega (arith, x, y);
  ends_are = both _ _ _ _ (set-first next ends.behind ends.before) (set-second next ends.behind ends.before);
}

-- a flag is a bit of the step
pub low-first : (s : ℕ) → word_bit (s % 256) 0 ≡ word_bit s 0
unfolding word_bit
low-first s = let e : s % 256 / 1 % 2 ≡ s / 1 % 2 = omega arith in ap (λ b. eqb b 1) e

pub low-second : (s : ℕ) → word_bit (s % 256) 1 ≡ word_bit s 1
unfolding word_bit
low-second s = let e : s % 256 / 2 % 2 ≡ s / 2 % 2 = omega arith in ap (λ b. eqb b 1) e

pub no-bit : (k : ℕ) → word_bit 0 k ≡ false
unfolding word_bit
no-bit k = ap (λ b. eqb b 1) (bit_at-zero k)
