use Rattle.hs_run.specs.Chains.{AreParts}
use Rattle.hs_run.proofs.checking.part_fault.Given as goal

abbrev pub invariant-loop-k : goal.invariant-loop-k
invariant-loop-k l = AreParts l.program l.layout l.region 0 l.k l.at
