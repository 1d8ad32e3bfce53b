use Rattle.std.proofs.Common.{length, inl, inr, arith}
use Rattle.std.proofs.lemmas.Bool.{cases_lt}
use Rattle.hs_nodes.specs.Left.{nowhere}
use Rattle.hs_nodes.proofs.FillLemmas.{get-past}
use Rattle.hs_scan.proofs.asking.forget_ends.Goals as goal

pub returns-clause-nowhere : goal.returns-clause-nowhere
returns-clause-nowhere c k = elim (cases_lt k (length c.loop-end.ends)) [
  | inl below ↦ c.loop-end.invariant k (omega (arith, below))
  | inr past ↦ get-past c.loop-end.ends k nowhere past
]
