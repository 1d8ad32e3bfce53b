use Rattle.std.proofs.Common.{◌≡◌, ℕ, ◌<◌, true, length, slice_get}
use Rattle.hs_base.specs.Bits.{has_word_bit}
use Rattle.hs_base.specs.Contexts.{Context}
use Rattle.hs_engine.specs.Automata.{in_mask}
use Rattle.hs_block.proofs.mask_words.some_row.Given as goal

abbrev pub invariant-loop-position : goal.invariant-loop-position
invariant-loop-position l = record {
  len : length l.row ≡ 8;
  some : (k : ℕ) (c : Context) → k < l.position → in_mask (slice_get l.masks k) c ≡ true → has_word_bit l.row k ≡ true;
}
