use Rattle.std.proofs.Common.{◌≡◌, ◌≤◌, ℕ, None}
use Rattle.hs_lazy.specs.Tables.{engine_at}
use Rattle.hs_nodes.specs.Cached.{IsCacheOf}
use Rattle.hs_nodes.proofs.cached.cache_for.Given as goal

abbrev pub invariant-loop-k : goal.invariant-loop-k
invariant-loop-k g l = record {
  cache : IsCacheOf g.E.Engine.meaning l.table l.cache;
  none : (j : ℕ) → l.k ≤ j → engine_at l.cache.dfas j ≡ None;
}
