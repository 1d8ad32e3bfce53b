use Rattle.std.proofs.Common.{◌≡◌, ℕ, ◌+◌, ◌*◌, ◌<◌, length}
use Rattle.hs_base.specs.Bits.{has_word_bit}
use Rattle.hs_waking.specs.PlaceBits.{is_behind}
use Rattle.hs_waking.proofs.chunk_places.one_later.Given as goal

abbrev pub invariant-loop-word : goal.invariant-loop-word
invariant-loop-word l = record {
  len : length l.words ≡ 9;
  done : (p : ℕ) → p + 63 < 64 * l.word → has_word_bit l.words (p + 63) ≡ is_behind l.first l.class p;
}
