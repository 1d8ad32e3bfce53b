use Rattle.std.proofs.Common.{ℕ, ◌+◌, ◌*◌, ◌-◌, ◌≤◌, List, [], ◌∷◌, ◌++◌, take}
use Rattle.hs_base.specs.ContextSets.{has_next}
use Rattle.hs_base.specs.Leaving.{TellsLeaving}
use Rattle.hs_base.specs.Regions.{Plan}
use Rattle.hs_run.specs.Chains.{AreKept, AreParts, AreWritten}
use Rattle.hs_run.specs.Programs.{Row, RunsRow, looked}
use Rattle.hs_run.specs.Spots.{IsSpot}
use Rattle.hs_run.proofs.chains.step_chain.Given as goal

abbrev pub invariant-loop-k : goal.invariant-loop-k
invariant-loop-k g l = record {
  low : l.chain.first ≤ l.k;
  ticks : l.steps ≤ l.fn.steps + 8 * (l.k - l.chain.first);
  written : AreWritten l.layout l.chain.first l.k l.fn.region l.region;
  parts : AreParts l.program l.layout l.region l.chain.first l.k (l.spot.at + 1);
  next : (plan : Plan) (x : Row) (u : List ℕ) → RunsRow l.program plan l.chain x → IsSpot u l.spot → l.chain.first + looked (plan.looks_back x.chain) ≤ l.k;
  leaves : (plan : Plan) (x : Row) (u : List ℕ) → RunsRow l.program plan l.chain x → IsSpot u l.spot → AreKept plan l.layout l.fn.region l.chain.first l.chain.end u →
      TellsLeaving (has_next l.now) (take (l.k - l.chain.first) x.chain) u;
  keeps : (plan : Plan) (x : Row) (u : List ℕ) → RunsRow l.program plan l.chain x → IsSpot u l.spot → AreKept plan l.layout l.fn.region l.chain.first l.chain.end u →
      AreKept plan l.layout l.region l.chain.first l.k (u ++ l.byte ∷ []);
}
