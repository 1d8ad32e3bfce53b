use Rattle.std.proofs.Common.{◌≡◌, ℕ, ◌+◌, ◌*◌, ◌<◌, length, get_or}
use Rattle.hs_base.specs.Bits.{has_word_bit}
use Rattle.hs_bits.specs.Packed.{digits}
use Rattle.hs_bits.proofs.words.store_whole_words.Given as goal

abbrev pub invariant-loop-place : goal.invariant-loop-place
invariant-loop-place l = record {
  len : length l.bytes ≡ length l.initial.bytes;
  are : (i : ℕ) → i < 8 * l.place → get_or l.bytes i 0 ≡ digits 8 (λ k. has_word_bit l.words (8 * i + k));
}
