use Rattle.std.proofs.Common.{◌≡◌, ℕ, ◌*◌, ◌&&◌, ◌||◌, nat_lt, length}
use Rattle.hs_base.specs.Bits.{has_bit, has_word_bit}
use Rattle.hs_limex.proofs.region_words.unite_region.Given as goal

abbrev pub invariant-loop-place : goal.invariant-loop-place
invariant-loop-place l = record {
  len : length l.words ≡ length l.initial.words;
  bits : (k : ℕ) → has_word_bit l.words k ≡ ((nat_lt k (64 * l.place) && has_bit l.bytes k) || has_word_bit l.initial.words k);
}
