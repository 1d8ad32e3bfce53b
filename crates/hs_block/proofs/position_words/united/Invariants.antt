use Rattle.std.proofs.Common.{◌≡◌, ℕ, ◌≤◌, ◌&&◌, ◌||◌, false, length, get_or}
use Rattle.hs_engine.specs.AnyBelow.{any_below}
use Rattle.hs_bits.specs.WordBits.{word_bit}
use Rattle.hs_block.proofs.position_words.united.Given as goal

abbrev pub invariant-loop-left : goal.invariant-loop-left
invariant-loop-left l = record {
  few : (y : ℕ) → length l.words ≤ y → word_bit l.left y ≡ false;
  whole : (i : ℕ) → (word_bit l.all i || any_below (length l.words) (λ y. word_bit (get_or l.words y 0) i && word_bit l.left y))
      ≡ any_below (length l.words) (λ y. word_bit (get_or l.words y 0) i && word_bit l.numbers y);
}

abbrev pub decreases-loop-left : goal.decreases-loop-left
decreases-loop-left l = l.left
