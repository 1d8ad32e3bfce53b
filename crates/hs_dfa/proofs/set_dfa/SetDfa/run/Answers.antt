use Rattle.std.proofs.Common.{◌∙◌, arith}
use Rattle.hs_dfa.proofs.SetRunLemmas.{everywhere-set, taken-set}
use Rattle.hs_dfa.proofs.set_dfa.SetDfa.run.Goals as goal

pub run-ends-requires-clause-throughout : goal.run-ends-requires-clause-throughout
run-ends-requires-clause-throughout g c always i below = everywhere-set i (omega (arith, below, c.requires.few))

pub returns-clause-tries : goal.returns-clause-tries
returns-clause-tries g c =
    taken-set c.args.self.now c.args.region.now c.copy_from_slice.new.self c.run-ends.new.region c.args.prev c.args.at c.in-Some.number c.args.bytes.now c.run-ends.result c.args.steps.now c.run-ends.new.steps c.requires.few
    c.in-Some.ensures c.run-ends.ensures.takes (c.copy_from_slice.ensures.after ∙ c.set.ensures.set)
