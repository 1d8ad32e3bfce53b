use Rattle.std.proofs.Common.{◌≡◌, ℕ, ◌<◌, ◌≤◌, ◌&&◌, ◌||◌, false, get_or}
use Rattle.hs_bits.specs.WordBits.{word_bit}
use Rattle.hs_block.proofs.position_words.column_word.Given as goal

abbrev pub invariant-loop-left : goal.invariant-loop-left
invariant-loop-left l = record {
  few : (y : ℕ) → 64 ≤ y → word_bit l.left y ≡ false;
  whole : (y : ℕ) → y < 64 → (word_bit l.row y || (word_bit (get_or l.words y 0) l.place && word_bit l.left y))
      ≡ (word_bit (get_or l.words y 0) l.place && word_bit l.numbers y);
}

abbrev pub decreases-loop-left : goal.decreases-loop-left
decreases-loop-left l = l.left
