use Rattle.std.proofs.Common.{◌≡◌, ◌+◌, ◌*◌, ◌≤◌, length, take}
use Rattle.hs_waking.specs.Starts.{start_word}
use Rattle.hs_nodes.proofs.EnteredLemmas.{RunsTo}
use Rattle.hs_nodes.specs.Pooled.{IsPooled, KeepsPooled}
use Rattle.hs_nodes.proofs.RunLemmas.{AreNowhereFrom}
use Rattle.hs_nodes.proofs.engines.run_first.Given as goal

abbrev pub invariant-loop-j : goal.invariant-loop-j
invariant-loop-j g l = record {
  len : length l.region ≡ (g.E.Engine.meaning l.numbered.engine.now).width;
  well : (g.E.Engine.meaning l.numbered.engine.now).well l.region (l.chunk.at + length (take (64 * l.j) l.chunk.bytes.now));
  befores : length l.ends.before ≡ 8;
  behinds : length l.ends.behind ≡ 8;
  pool : IsPooled (g.E.Engine.meaning l.numbered.engine.now) l.numbered.number l.pool;
  others : KeepsPooled g.E.Engine.meaning l.numbered.number l.fn.pool l.pool;
  nowhere : AreNowhereFrom l.j l.ends;
  steps : l.steps ≤ l.initial.steps + length (take (64 * l.j) l.chunk.bytes.now);
  runs : RunsTo (g.E.Engine.meaning l.numbered.engine.now) l.fn.region l.region l.chunk.prev l.chunk.at l.chunk.bytes.now
      (start_word l.starts l.k) l.ends l.j;
}
