use Rattle.std.proofs.Common.{◌≡◌, length}
use Rattle.hs_waking.specs.RowTables.{Extends, IsCutRow}
use Rattle.hs_waking.proofs.row_table.RowTable.cut.Given as goal

abbrev pub invariant-loop-depth : goal.invariant-loop-depth
invariant-loop-depth l = record {
  rows : l.self.rows ≡ l.fn.self.rows;
  kept : Extends l.fn.self.sets.items l.self.sets.items;
  size : length l.numbers ≡ 8;
  is : IsCutRow l.self.sets.items l.row l.depth l.numbers;
}
