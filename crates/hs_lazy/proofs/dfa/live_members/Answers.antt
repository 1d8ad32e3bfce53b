use Rattle.std.proofs.Common.{arith}
use Rattle.hs_lazy.proofs.dfa.live_members.Goals as goal

pub loop-word-preserved : goal.loop-word-preserved
loop-word-preserved c = record {
  len = c.insert_owners.ensures.len;
  live = λ i low unset. c.insert_owners.ensures.live i (omega (arith, low)) unset;
}

pub returns-clause-live : goal.returns-clause-live
returns-clause-live c i low unset = c.loop-word.invariant.live i (omega (arith, low, c.loop-word-test.false)) unset
