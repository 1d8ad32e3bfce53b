use Rattle.std.proofs.Common.{◌≡◌, ◌-◌, ◌≤◌, ℕ}
use Rattle.hs_lazy.specs.Caches.{loaded}
use Rattle.hs_bits.specs.Marks.{mark_room}
use Rattle.hs_nodes.specs.Loading.{IsLoadedTo}
use Rattle.hs_nodes.proofs.cached.load_marked.Given as goal

abbrev pub invariant-loop-k : goal.invariant-loop-k
invariant-loop-k g l = record {
  dfas : l.cache.dfas ≡ l.fn.cache.dfas;
  later : (k : ℕ) → l.from ≤ k → loaded l.cache k ≡ loaded l.fn.cache k;
  loaded : IsLoadedTo l.table l.region l.marks l.cache l.from;
}

abbrev pub decreases-loop-k : goal.decreases-loop-k
decreases-loop-k g l = mark_room l.marks - l.from
