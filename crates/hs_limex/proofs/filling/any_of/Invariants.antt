use Rattle.std.proofs.Common.{◌≡◌, ℕ, ◌<◌, true, slice_get}
use Rattle.hs_base.specs.Contexts.{Context}
use Rattle.hs_engine.specs.Automata.{in_mask}
use Rattle.hs_limex.specs.WordTables.{in_table}
use Rattle.hs_limex.proofs.filling.any_of.Given as goal

abbrev pub invariant-loop-position : goal.invariant-loop-position
invariant-loop-position l = record {
  count : l.rows.count ≡ 1;
  width : l.rows.width ≡ l.width;
  bits : (k : ℕ) (c : Context) → k < l.position → in_mask (slice_get l.masks k) c ≡ true → in_table l.rows 0 k ≡ true;
}
