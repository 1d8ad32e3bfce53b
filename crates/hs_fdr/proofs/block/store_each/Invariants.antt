use Rattle.hs_fdr.specs.Lanes.{IsStored}
use Rattle.hs_fdr.proofs.block.store_each.Given as goal

abbrev pub invariant-loop-k : goal.invariant-loop-k
invariant-loop-k l = IsStored l.lanes l.k l.at l.fn.out l.out
