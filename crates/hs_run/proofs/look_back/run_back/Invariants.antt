use Rattle.std.proofs.Common.{◌≡◌, ℕ, ◌+◌, ◌≤◌, false, List, length}
use Rattle.hs_base.specs.Trees.{Tree}
use Rattle.hs_run.specs.Spots.{IsSpot}
use Rattle.hs_run.proofs.LookLemmas.{IsRunTo}
use Rattle.hs_run.proofs.look_back.run_back.Given as goal

abbrev pub invariant-loop-i : goal.invariant-loop-i
invariant-loop-i g l = record {
  len : length l.part ≡ (g.E.Engine.meaning l.engine).width;
  well : (g.E.Engine.meaning l.engine).well l.part (l.from + l.i);
  ticks : l.steps ≤ l.fn.steps + l.i;
  runs : (tree : Tree) (u : List ℕ) (runs : (g.E.Engine.meaning l.engine).is_for tree) (listed : (g.E.Engine.meaning l.engine).always ≡ false) → IsSpot u l.spot →
      IsRunTo (g.E.Engine.meaning l.engine) tree runs listed u l.from l.i l.part l.prev;
}
