use Rattle.std.proofs.Common.{◌≡◌, ℕ, ◌+◌, ◌*◌, ◌<◌, ◌≤◌, false}
use Rattle.hs_bits.specs.WordBits.{word_bit}
use Rattle.hs_block.specs.StreamSets.{in_rows}
use Rattle.hs_block.proofs.before_tables.asked_squares.Given as goal

abbrev pub invariant-loop-square : goal.invariant-loop-square
invariant-loop-square l = record {
  few : (q : ℕ) → l.square ≤ q → word_bit l.squares q ≡ false;
  unasked : (q y : ℕ) → q < l.square → y < 64 * l.width → word_bit l.squares q ≡ false → in_rows l.rests l.width (12 * l.position + q) y ≡ false;
}
