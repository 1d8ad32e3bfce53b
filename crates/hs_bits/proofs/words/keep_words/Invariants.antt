use Rattle.std.proofs.Common.{◌≡◌, ℕ, ◌<◌, ◌≤◌, length, get_or, bit_and}
use Rattle.hs_bits.proofs.words.keep_words.Given as goal

abbrev pub invariant-loop-place : goal.invariant-loop-place
invariant-loop-place l = record {
  len : length l.words ≡ length l.initial.words;
  kept : (i : ℕ) → i < l.place → get_or l.words i 0 ≡ bit_and (get_or l.initial.words i 0) (get_or l.row i 0);
  later : (i : ℕ) → l.place ≤ i → get_or l.words i 0 ≡ get_or l.initial.words i 0;
}
