use Rattle.hs_dfa.proofs.DfaLemmas.{dfa-quiet}
use Rattle.hs_dfa.proofs.dfa.DfaEngine.at_rest.Goals as goal

pub returns-then-number-len-clause-quiet : goal.returns-then-number-len-clause-quiet
returns-then-number-len-clause-quiet c = dfa-quiet c.args.self.now c.args.region.now c.is_empty_at.result c.is_empty_at.ensures
