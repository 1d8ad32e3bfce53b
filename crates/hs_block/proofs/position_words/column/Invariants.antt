use Rattle.std.proofs.Common.{◌≡◌, ℕ, ◌*◌, ◌<◌, length, get_or}
use Rattle.hs_base.specs.Bits.{has_word_bit}
use Rattle.hs_bits.specs.WordBits.{word_bit}
use Rattle.hs_block.proofs.position_words.column.Given as goal

abbrev pub invariant-loop-at : goal.invariant-loop-at
invariant-loop-at g l = record {
  len : length l.row ≡ g.row.W;
  bits : (x : ℕ) → x < 64 * l.at → has_word_bit l.row x ≡ word_bit (get_or l.words x 0) l.place;
}
