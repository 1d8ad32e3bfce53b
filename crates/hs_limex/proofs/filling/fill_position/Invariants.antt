use Rattle.std.proofs.Common.{◌≡◌, ℕ, ◌&&◌, ◌||◌, eqb, nat_lt, slice_get}
use Rattle.hs_engine.specs.Automata.{in_set}
use Rattle.hs_limex.specs.WordTables.{in_table}
use Rattle.hs_limex.proofs.filling.fill_position.Given as goal

abbrev pub invariant-loop-byte : goal.invariant-loop-byte
invariant-loop-byte l = record {
  count : l.rows.count ≡ l.initial.rows.count;
  width : l.rows.width ≡ l.initial.rows.width;
  bits : (b k : ℕ) → in_table l.rows b k ≡ ((nat_lt b l.byte && (eqb k l.position && in_set (slice_get l.sets l.position) b)) || in_table l.initial.rows b k);
}
