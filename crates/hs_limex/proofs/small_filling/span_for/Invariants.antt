use Rattle.std.proofs.Common.{◌≡◌, ℕ, ◌+◌, ◌<◌, ◌≤◌, true}
use Rattle.hs_engine.specs.Rows.{in_row}
use Rattle.hs_limex.specs.SmallWords.{one_context}
use Rattle.hs_limex.proofs.small_filling.span_for.Given as goal

abbrev pub invariant-loop-distance : goal.invariant-loop-distance
invariant-loop-distance l = record {
  used : (d k : ℕ) → d < l.distance → in_row l.follows k (k + d) one_context ≡ true → d < l.span;
  few : l.span ≤ l.distance;
}
