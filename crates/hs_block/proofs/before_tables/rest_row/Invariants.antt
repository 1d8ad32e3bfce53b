use Rattle.std.proofs.Common.{◌≡◌, ℕ, ◌&&◌, not, nat_lt, length}
use Rattle.hs_base.specs.Bits.{has_word_bit}
use Rattle.hs_engine.specs.Rows.{in_square}
use Rattle.hs_block.proofs.before_tables.rest_row.Given as goal

abbrev pub invariant-loop-from : goal.invariant-loop-from
invariant-loop-from l = record {
  len : length l.row ≡ 8;
  bits : (y : ℕ) → has_word_bit l.row y ≡ (nat_lt y l.from && (in_square l.follows l.fn.square y l.fn.position && not (has_word_bit l.always y)));
}
