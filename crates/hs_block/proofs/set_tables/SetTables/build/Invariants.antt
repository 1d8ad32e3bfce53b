use Rattle.std.proofs.Common.{◌≡◌, vec_len}
use Rattle.hs_block.specs.StreamSets.{AreSetTables}
use Rattle.hs_block.proofs.set_tables.SetTables.build.Given as goal

abbrev pub invariant-loop-position : goal.invariant-loop-position
invariant-loop-position l = record {
  tables : AreSetTables l.sets.items l.numbers.items l.first l.given;
  count : vec_len l.numbers ≡ l.position;
}
