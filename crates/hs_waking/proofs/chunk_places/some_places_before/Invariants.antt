use Rattle.std.proofs.Common.{◌≡◌, ℕ, ◌*◌, ◌<◌, nat_lt, length}
use Rattle.hs_base.specs.Bits.{has_word_bit}
use Rattle.hs_waking.proofs.chunk_places.some_places_before.Given as goal

abbrev pub invariant-loop-word : goal.invariant-loop-word
invariant-loop-word l = record {
  len : length l.places ≡ 8;
  before : (p : ℕ) → p < 64 * l.word → has_word_bit l.places p ≡ nat_lt p l.end;
}
