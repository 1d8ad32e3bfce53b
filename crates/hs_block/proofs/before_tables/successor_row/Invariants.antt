use Rattle.std.proofs.Common.{◌≡◌, ℕ, ◌<◌, true, length}
use Rattle.hs_base.specs.Bits.{has_word_bit}
use Rattle.hs_engine.specs.Rows.{in_square}
use Rattle.hs_block.proofs.before_tables.successor_row.Given as goal

abbrev pub invariant-loop-square : goal.invariant-loop-square
invariant-loop-square l = record {
  len : length l.row ≡ 8;
  have : (k y : ℕ) → k < l.square → in_square l.follows k l.fn.position y ≡ true → has_word_bit l.row y ≡ true;
}
