use Rattle.std.proofs.Common.{◌≡◌, ℕ, ◌+◌, ◌*◌, ◌<◌, ◌&&◌, nat_lt}
use Rattle.hs_base.specs.Contexts.{Context, context_number}
use Rattle.hs_engine.specs.Rows.{in_row}
use Rattle.hs_limex.specs.WordTables.{in_table}
use Rattle.hs_limex.proofs.far_filling.near_of.Given as goal

abbrev pub invariant-loop-number : goal.invariant-loop-number
invariant-loop-number l = record {
  count : l.rows.count ≡ 192;
  width : l.rows.width ≡ l.width;
  bits : (c : Context) (d k : ℕ) → d < 8 → in_table l.rows (8 * context_number c + d) k ≡ (nat_lt (8 * context_number c + d) l.number && in_row l.follows k (k + d) c);
}
