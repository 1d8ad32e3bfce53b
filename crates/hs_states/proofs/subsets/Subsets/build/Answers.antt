use Rattle.std.proofs.Common.{arith}
use Rattle.hs_states.proofs.subsets.Subsets.build.Goals as goal

pub loop-state-preserved : goal.loop-state-preserved
loop-state-preserved c = record {
  built = c.in_ok-take_state.ensures.built.built c.if-not-branch.false;
  within = omega (arith, c.in_ok-take_state.ensures.few, c.loop-state-test.true, c.len.ensures);
}
