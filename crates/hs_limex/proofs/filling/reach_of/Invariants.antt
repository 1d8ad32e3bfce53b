use Rattle.std.proofs.Common.{◌≡◌, ℕ, ◌<◌, ◌&&◌, nat_lt, slice_get}
use Rattle.hs_engine.specs.Automata.{in_set}
use Rattle.hs_limex.specs.WordTables.{in_table}
use Rattle.hs_limex.proofs.filling.reach_of.Given as goal

abbrev pub invariant-loop-position : goal.invariant-loop-position
invariant-loop-position l = record {
  count : l.rows.count ≡ 256;
  width : l.rows.width ≡ l.width;
  bits : (b k : ℕ) → b < 256 → in_table l.rows b k ≡ (nat_lt k l.position && in_set (slice_get l.sets k) b);
}
