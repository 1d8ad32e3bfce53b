use Rattle.std.proofs.Common.{◌≡◌, ℕ, ◌<◌, true}
use Rattle.hs_engine.specs.Rows.{in_row}
use Rattle.hs_limex.specs.WordTables.{in_table}
use Rattle.hs_limex.specs.Near.{IsFew, Follows}
use Rattle.hs_limex.proofs.far_filling.fill_far.Given as goal

abbrev pub invariant-loop-position : goal.invariant-loop-position
invariant-loop-position l = record {
  count : l.rows.count ≡ l.initial.rows.count;
  width : l.rows.width ≡ l.initial.rows.width;
  few : IsFew l.initial.rows l.size → IsFew l.rows l.size;
  kept : (k : ℕ) → in_table l.initial.rows 0 k ≡ true → in_table l.rows 0 k ≡ true;
  rest : (x y : ℕ) → x < l.position → in_row l.follows x y (record { prev = l.prev; next = l.next }) ≡ true → Follows l.rows x y;
}
