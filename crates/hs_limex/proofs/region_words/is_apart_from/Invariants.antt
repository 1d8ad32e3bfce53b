use Rattle.std.proofs.Common.{◌≡◌, ℕ, ◌*◌, ◌<◌, false, ◌&&◌}
use Rattle.hs_base.specs.Bits.{has_bit, has_word_bit}
use Rattle.hs_limex.proofs.region_words.is_apart_from.Given as goal

abbrev pub invariant-loop-place : goal.invariant-loop-place
invariant-loop-place l = (k : ℕ) → k < 64 * l.place → (has_bit l.bytes k && has_word_bit l.row k) ≡ false
