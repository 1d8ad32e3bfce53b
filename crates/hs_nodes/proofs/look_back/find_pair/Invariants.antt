use Rattle.std.proofs.Common.{◌≡◌, ◌+◌, ◌-◌, ◌*◌, ◌≤◌, length}
use Rattle.hs_nodes.specs.Hits.{hit_count}
use Rattle.hs_nodes.proofs.PairLemmas.{AreFound}
use Rattle.hs_nodes.proofs.look_back.find_pair.Given as goal

abbrev pub invariant-loop-k : goal.invariant-loop-k
invariant-loop-k g l = record {
  window : length l.window ≡ 64;
  room : length l.behind ≡ 8;
  within : l.from ≤ length l.chunk.bytes.now;
  steps : l.steps ≤ l.fn.steps + 16 * hit_count l.hits l.from;
  found : AreFound (g.E.Engine.meaning l.engine) l.pair.null l.pair.len l.chunk.at l.chunk.past.now l.chunk.bytes.now l.hits l.behind l.from;
}

abbrev pub decreases-loop-k : goal.decreases-loop-k
decreases-loop-k g l = length l.chunk.bytes.now - l.from
