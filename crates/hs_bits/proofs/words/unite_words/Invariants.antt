use Rattle.std.proofs.Common.{◌≡◌, ℕ, ◌<◌, ◌≤◌, length, get_or, bit_or}
use Rattle.hs_bits.proofs.words.unite_words.Given as goal

abbrev pub invariant-loop-place : goal.invariant-loop-place
invariant-loop-place l = record {
  len : length l.words ≡ length l.initial.words;
  united : (i : ℕ) → i < l.place → get_or l.words i 0 ≡ bit_or (get_or l.initial.words i 0) (get_or l.row i 0);
  kept : (i : ℕ) → l.place ≤ i → get_or l.words i 0 ≡ get_or l.initial.words i 0;
}
