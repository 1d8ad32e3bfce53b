use Rattle.hs_dfa.proofs.DfaLemmas.{dfa-asleep}
use Rattle.hs_dfa.proofs.dfa.DfaEngine.wakers.Goals as goal

pub returns : goal.returns
returns c = dfa-asleep c.args.self.now
