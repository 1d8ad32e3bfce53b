use Rattle.std.proofs.Common.{◌≡◌, ℕ, ◌&&◌, ◌||◌}
use Rattle.std.specs.Prelude.{◌==◌}
use Rattle.hs_engine.specs.Rows.{in_square}
use Rattle.hs_glushkov.specs.FollowTables.{is_followed}
use Rattle.hs_glushkov.specs.Ranges.{is_within}
use Rattle.hs_glushkov.proofs.row_filling.fill_row.Given as goal

abbrev pub invariant-loop-to : goal.invariant-loop-to
invariant-loop-to l = record {
  size : l.rows.size ≡ l.initial.rows.size;
  by_context : l.rows.by_context ≡ l.initial.rows.by_context;
  filled : (k x y : ℕ) →
      in_square l.rows k x y
      ≡ ((is_within 0 l.to y && ((x == l.from) && ((k == l.square) && is_followed l.follows x y (record { prev = l.prev; next = l.class })))) || in_square l.initial.rows k x y);
}
