use Rattle.std.proofs.Common.{◌≡◌, ℕ, ◌+◌, ◌*◌, ◌/◌, ◌<◌, ◌||◌, length, get_or}
use Rattle.std.specs.Prelude.{nat_le}
use Rattle.hs_base.specs.Bits.{has_word_bit}
use Rattle.hs_base.specs.ByteSets.{has}
use Rattle.hs_waking.proofs.class_words.fill.Given as goal

abbrev pub invariant-loop-block : goal.invariant-loop-block
invariant-loop-block l = record {
  len : length l.words ≡ length l.initial.words;
  places : (p : ℕ) → p < 64 * l.block → has_word_bit l.words (576 * l.number + p) ≡ (nat_le (length l.bytes) p || has l.set (get_or l.bytes p 0));
  others : (b : ℕ) → (b / 576 ≡ l.number → ⊥) → has_word_bit l.words b ≡ has_word_bit l.initial.words b;
}
