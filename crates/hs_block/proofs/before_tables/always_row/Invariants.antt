use Rattle.std.proofs.Common.{◌≡◌, ℕ, ◌<◌, ◌&&◌, true, false, nat_lt, length}
use Rattle.hs_base.specs.Bits.{has_word_bit}
use Rattle.hs_engine.specs.RowSizes.{square_count}
use Rattle.hs_engine.specs.Rows.{in_square}
use Rattle.hs_block.proofs.before_tables.always_row.Given as goal

abbrev pub invariant-loop-from : goal.invariant-loop-from
invariant-loop-from l = record {
  len : length l.row ≡ 8;
  each : (y k : ℕ) → has_word_bit l.row y ≡ true → k < square_count l.follows.by_context → in_square l.follows k y l.fn.position ≡ true;
  one : l.follows.by_context ≡ false → (y : ℕ) → has_word_bit l.row y ≡ (nat_lt y l.from && in_square l.follows 0 y l.fn.position);
}
