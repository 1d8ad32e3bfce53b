use Rattle.std.proofs.Common.{◌≡◌, ℕ, ◌&&◌}
use Rattle.std.specs.Prelude.{nat_lt}
use Rattle.hs_engine.specs.Rows.{in_square}
use Rattle.hs_glushkov.specs.FollowTables.{is_followed}
use Rattle.hs_glushkov.specs.Squares.{context_numbered}
use Rattle.hs_glushkov.proofs.row_filling.rows_of.Given as goal

abbrev pub invariant-loop-square : goal.invariant-loop-square
invariant-loop-square l = record {
  size : l.rows.size ≡ l.follows.size;
  by_context : l.rows.by_context ≡ l.initial.rows.by_context;
  filled : (k x y : ℕ) → in_square l.rows k x y ≡ (nat_lt k l.square && is_followed l.follows x y (context_numbered k));
}
