use Rattle.std.proofs.Common.{◌≡◌, ℕ, ◌*◌, ◌&&◌, ◌||◌, nat_lt, length}
use Rattle.hs_base.specs.Bits.{has_bit}
use Rattle.hs_base.specs.Bits.{has_word_bit}
use Rattle.hs_bits.proofs.words.unite_bytes.Given as goal

abbrev pub invariant-loop-place : goal.invariant-loop-place
invariant-loop-place l = record {
  len : length l.words ≡ length l.fn.words;
  bits : (k : ℕ) → has_word_bit l.words k ≡ ((nat_lt k (8 * l.place) && has_bit l.bytes k) || has_word_bit l.fn.words k);
}
