-- Bits of sets of contexts.
use Rattle.std.proofs.Common.{◌≡◌, ℕ, zero, suc, ◌+◌, ◌-◌, ◌*◌, ◌/◌, ◌%◌, ◌^◌, ◌<◌, Bool, true, false, ◌&&◌, eqb, min, refl, sym, ap, ◌∙◌, inl, inr, arith, bit_and}
use Rattle.std.specs.Int.{bit_at}
use Rattle.std.proofs.lemmas.Bool.{cases_eq, eq-eqb, ne_eqb}
use Rattle.std.proofs.lemmas.Nat.Bits.{bit_at-lt, bit_at-zero, bit_at_and, bit_at_ones, bit_at-pow_same, bit_at-pow_other, shr_and_one}
use Rattle.std.proofs.lemmas.Nat.{shr-shr}
use Rattle.hs_base.specs.declared.context.Prev.{Prev}
use Rattle.hs_base.specs.declared.context.Prev.TheVariants as before
use Rattle.hs_base.specs.declared.context.Next.{Next}
use Rattle.hs_base.specs.declared.context.Next.TheVariants as after
use Rattle.hs_base.specs.Contexts.{Context, prev_number, next_number, context_number}

pub prev_number-lt : (prev : Prev) → prev_number prev < 4
prev_number-lt before.Start = omega arith
prev_number-lt before.Word = omega arith
prev_number-lt before.Newline = omega arith
prev_number-lt before.Other = omega arith

pub next_number-lt : (next : Next) → next_number next < 6
next_number-lt after.Word = omega arith
next_number-lt after.Newline = omega arith
next_number-lt after.Other = omega arith
next_number-lt after.End = omega arith
next_number-lt after.FinalNewline = omega arith
next_number-lt after.Unknown = omega arith

pub context_number-lt : (c : Context) → context_number c < 24
context_number-lt c = omega (arith, prev_number-lt c.prev, next_number-lt c.next)

both : (m n : ℕ) → m < 2 → n < 2 → eqb (min m n) 1 ≡ (eqb m 1 && eqb n 1)
both zero zero hm hn = refl
both zero (suc zero) hm hn = refl
both (suc zero) zero hm hn = refl
both (suc zero) (suc zero) hm hn = refl
both (suc (suc m)) n hm hn = absurd (omega arith)
both m (suc (suc n)) hm hn = absurd (omega arith)

pub bit-and : (x y i : ℕ) → eqb (bit_at (bit_and x y) i) 1 ≡ (eqb (bit_at x i) 1 && eqb (bit_at y i) 1)
bit-and x y i = rw bit_at_and (both (bit_at x i) (bit_at y i) (bit_at-lt x i) (bit_at-lt y i))

-- the bit at a place, as it is tested
pub bit-test : (n k i : ℕ) → k ≡ i → eqb (bit_and (n / 2 ^ k) 1) 1 ≡ eqb (bit_at n i) 1
bit-test n k i same = ap (λ b. eqb b 1) (shr_and_one n k ∙ ap (bit_at n) same)

pub bit-empty : (i : ℕ) → eqb (bit_at 0 i) 1 ≡ false
bit-empty i = ap (λ b. eqb b 1) (bit_at-zero i)

pub bit-all : (k i : ℕ) → i < k → eqb (bit_at (2 ^ k - 1) i) 1 ≡ true
bit-all k i below = ap (λ b. eqb b 1) (bit_at_ones k i below)

pub bit-one : (k i : ℕ) → eqb (bit_at (2 ^ k) i) 1 ≡ eqb i k
bit-one k i =
    elim (cases_eq i k) [
      | inl same ↦ ap (λ b. eqb b 1) (ap (bit_at (2 ^ k)) same ∙ bit_at-pow_same k) ∙ sym (eq-eqb i k same)
      | inr apart ↦ ap (λ b. eqb b 1) (bit_at-pow_other k i apart) ∙ sym (ne_eqb i k apart)
    ]

pub power-of_next : (next : Next) → 1 * 2 ^ next_number next % 256 ≡ 2 ^ next_number next
power-of_next after.Word = refl
power-of_next after.Newline = refl
power-of_next after.Other = refl
power-of_next after.End = refl
power-of_next after.FinalNewline = refl
power-of_next after.Unknown = refl

and-true : (b : Bool) → (b && true) ≡ b
and-true true = refl
and-true false = refl

-- the six bits from a place on
pub bit-row : (n k i : ℕ) → i < 6 → eqb (bit_at (bit_and (n / 2 ^ k) 63) i) 1 ≡ eqb (bit_at n (k + i)) 1
bit-row n k i below =
    bit-and (n / 2 ^ k) 63 i
    ∙ (ap (λ b. eqb (bit_at (n / 2 ^ k) i) 1 && b) (bit-all 6 i below)
    ∙ (and-true (eqb (bit_at (n / 2 ^ k) i) 1) ∙ ap (λ m. eqb (m % 2) 1) (shr-shr n k i)))
