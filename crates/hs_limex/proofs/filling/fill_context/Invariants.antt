use Rattle.std.proofs.Common.{◌≡◌, ℕ, ◌&&◌, ◌||◌, eqb, nat_lt, slice_get}
use Rattle.hs_engine.specs.Automata.{in_mask}
use Rattle.hs_limex.specs.WordTables.{in_table}
use Rattle.hs_limex.proofs.filling.fill_context.Given as goal

abbrev pub invariant-loop-position : goal.invariant-loop-position
invariant-loop-position l = record {
  count : l.rows.count ≡ l.initial.rows.count;
  width : l.rows.width ≡ l.initial.rows.width;
  bits : (n k : ℕ) → in_table l.rows n k ≡ ((nat_lt k l.position && (eqb n l.number && in_mask (slice_get l.masks k) (record { prev = l.prev; next = l.next }))) || in_table l.initial.rows n k);
}
