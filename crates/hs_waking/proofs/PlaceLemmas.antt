-- Bits of one word, and rows behind the positions that there are.
use Rattle.std.proofs.Common.{◌≡◌, ℕ, ◌+◌, ◌-◌, ◌*◌, ◌/◌, ◌%◌, ◌^◌, ◌<◌, ◌≤◌, true, false, nat_lt, ◌&&◌, ◌||◌, eqb, sym, ap, ◌∙◌, inl, inr, arith, bit_or, bit_and}
use Rattle.std.specs.Prelude.{nat_le}
use Rattle.std.specs.Int.{bit_at}
use Rattle.std.proofs.lemmas.Bool.{cases_lt, eqb-false, le-ltb}
use Rattle.std.proofs.lemmas.Bool.Decides.{nat_tests}
use Rattle.std.proofs.lemmas.Nat.{shr-shr}
use Rattle.std.proofs.lemmas.Nat.Bits.{bit_at-lt, bit_at-zero, bit_at_above, bit_at_ones, bit_at_ones_above, ones_shr, same_from_bits}
use Rattle.hs_base.specs.Bits.{has_bit}
use Rattle.hs_base.specs.Contexts.{Context}
use Rattle.hs_base.proofs.ByteSetLemmas.{bit-or}
use Rattle.hs_base.proofs.ContextSetLemmas.{bit-and}
use Rattle.hs_bits.proofs.WordLemmas.{shl-bit}
use Rattle.hs_engine.specs.declared.follow_rows.FollowRows.{FollowRows}
use Rattle.hs_engine.specs.RowSizes.{row_len}
use Rattle.hs_engine.specs.Rows.{in_row, in_square, row_start, square_number}
use Rattle.hs_waking.specs.PlaceBits.{place_bit}

pub bit-none : (i : ℕ) → place_bit 0 i ≡ false
unfolding place_bit
bit-none i = ap (λ n. eqb n 1) (bit_at-zero i)

pub bit-shifted : (word from i : ℕ) → place_bit (word / 2 ^ from) i ≡ place_bit word (from + i)
unfolding place_bit
bit-shifted word from i = ap (λ m. eqb (m % 2) 1) (shr-shr word from i)

pub less : (k n : ℕ) → nat_lt k n ≡ true → k < n
less k n is = grind (arith, nat_tests)

pub less-is : (k n : ℕ) → k < n → nat_lt k n ≡ true
less-is k n below = grind (arith, nat_tests)

not-less : (k n : ℕ) → n ≤ k → nat_lt k n ≡ false
not-less k n above = grind (arith, nat_tests)

-- the lowest bits

pub low-none : (count i : ℕ) → count ≡ 0 → place_bit 0 i ≡ nat_lt i count
low-none count i none = bit-none i ∙ sym (not-less i count (omega arith))

pub low-some : (count i : ℕ) → count ≤ 64 → place_bit (18446744073709551615 / 2 ^ (64 - count)) i ≡ nat_lt i count
unfolding place_bit
low-some count i few =
    let ones : (2 ^ 64 - 1) / 2 ^ (64 - count) ≡ 2 ^ (64 - (64 - count)) - 1 = ones_shr 64 (64 - count) (omega arith) in
    let e : 64 - (64 - count) ≡ count = omega arith in
    ap (λ w. eqb (bit_at w i) 1) (ones ∙ ap (λ k. 2 ^ k - 1) e)
    ∙ elim (cases_lt i count) [
      | inl below ↦ ap (λ b. eqb b 1) (bit_at_ones count i below) ∙ sym (less-is i count below)
      | inr above ↦ ap (λ b. eqb b 1) (bit_at_ones_above count i above) ∙ sym (not-less i count above)
    ]

-- words by their bits

pub bit-both : (x y i : ℕ) → place_bit (bit_and x y) i ≡ (place_bit x i && place_bit y i)
unfolding place_bit
bit-both x y i = bit-and x y i

pub bit-either : (x y i : ℕ) → place_bit (bit_or x y) i ≡ (place_bit x i || place_bit y i)
unfolding place_bit
bit-either x y i = bit-or x y i

pub bit-up : (x d i : ℕ) → i < 64 → place_bit (x * 2 ^ d % 18446744073709551616) i ≡ (nat_le d i && place_bit x (i - d))
unfolding place_bit
bit-up x d i below = shl-bit x d i below

pub no-bits : (word : ℕ) → ((k : ℕ) → place_bit word k ≡ false) → word ≡ 0
unfolding place_bit
no-bits word none_ = same_from_bits word 0 (λ k. omega (arith, bit_at-lt word k, bit_at-zero k, eqb-false (bit_at word k) 1 (none_ k)))

pub past-word : (word k : ℕ) → word < 2 ^ 64 → 64 ≤ k → place_bit word k ≡ false
unfolding place_bit
past-word word k fits past = ap (λ n. eqb n 1) (bit_at_above word 64 k fits past)

-- beyond its positions nothing follows
pub row-past : (rows : FollowRows) (x y : ℕ) (c : Context) → rows.size ≤ x → in_row rows x y c ≡ false
unfolding in_square
row-past rows x y c past =
    ap (λ b. b && (nat_lt y (8 * row_len rows.size) && has_bit rows.bits.items (8 * row_start rows.size (square_number rows.by_context c) x + y))) (le-ltb x rows.size past)
