use Rattle.std.proofs.Common.{◌≡◌, ℕ, ◌<◌, ◌≤◌, length, get_or, bit_or}
use Rattle.hs_bits.proofs.bytes.unite_bits.Given as goal

abbrev pub invariant-loop-place : goal.invariant-loop-place
invariant-loop-place l = record {
  len : length l.bytes ≡ length l.initial.bytes;
  united : (i : ℕ) → i < l.place → get_or l.bytes i 0 ≡ bit_or (get_or l.initial.bytes i 0) (get_or l.row i 0);
  kept : (i : ℕ) → l.place ≤ i → get_or l.bytes i 0 ≡ get_or l.initial.bytes i 0;
}
