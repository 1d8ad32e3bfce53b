use Rattle.std.proofs.Common.{ℕ, ◌+◌, ◌-◌, ◌≤◌, List, take}
use Rattle.hs_base.specs.ContextSets.{has_next}
use Rattle.hs_base.specs.Leaving.{TellsLeaving}
use Rattle.hs_base.specs.Regions.{Plan}
use Rattle.hs_run.specs.Chains.{AreKept}
use Rattle.hs_run.specs.Programs.{Row, RunsRow, looked}
use Rattle.hs_run.specs.Spots.{IsSpot}
use Rattle.hs_run.proofs.chains.leave_chain.Given as goal

abbrev pub invariant-loop-k : goal.invariant-loop-k
invariant-loop-k g l = record {
  low : l.chain.first ≤ l.k;
  next : (plan : Plan) (x : Row) (u : List ℕ) → RunsRow l.program plan l.chain x → IsSpot u l.spot → l.chain.first + looked (plan.looks_back x.chain) ≤ l.k;
  leaves : (plan : Plan) (x : Row) (u : List ℕ) → RunsRow l.program plan l.chain x → IsSpot u l.spot → AreKept plan l.layout l.region l.chain.first l.chain.end u →
      TellsLeaving (has_next l.now) (take (l.k - l.chain.first) x.chain) u;
}
