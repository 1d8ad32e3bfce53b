use Rattle.std.proofs.Common.{◌≡◌, ℕ, ◌&&◌, nat_lt, slice_get}
use Rattle.hs_base.specs.Contexts.{Context, context_number}
use Rattle.hs_engine.specs.Automata.{in_mask}
use Rattle.hs_limex.specs.WordTables.{in_table}
use Rattle.hs_limex.proofs.filling.masks_of.Given as goal

abbrev pub invariant-loop-number : goal.invariant-loop-number
invariant-loop-number l = record {
  count : l.rows.count ≡ 24;
  width : l.rows.width ≡ l.width;
  bits : (c : Context) (k : ℕ) → in_table l.rows (context_number c) k ≡ (nat_lt (context_number c) l.number && in_mask (slice_get l.masks k) c);
}
