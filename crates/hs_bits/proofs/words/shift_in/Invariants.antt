use Rattle.std.proofs.Common.{◌≡◌, ℕ, ◌+◌, ◌*◌, ◌&&◌, ◌||◌, ◌==◌, nat_lt, length}
use Rattle.std.specs.Int.{bit_at}
use Rattle.hs_base.specs.Bits.{has_word_bit}
use Rattle.hs_bits.specs.Shifts.{is_shifted}
use Rattle.hs_bits.proofs.words.shift_in.Given as goal

abbrev pub invariant-loop-place : goal.invariant-loop-place
invariant-loop-place l = record {
  len : length l.led ≡ length l.initial.led;
  bits : (k : ℕ) → has_word_bit l.led k ≡ ((nat_lt k (64 * l.place) && is_shifted l.live l.row l.distance k) || has_word_bit l.initial.led k);
  carry : (i : ℕ) → (bit_at l.carry i == 1) ≡ (nat_lt i l.distance && is_shifted l.live l.row l.distance (64 * l.place + i));
}
