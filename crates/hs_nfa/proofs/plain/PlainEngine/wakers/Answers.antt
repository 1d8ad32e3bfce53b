use Rattle.hs_limex.proofs.PlainLemmas.{field-asleep}
use Rattle.hs_nfa.proofs.plain.PlainEngine.wakers.Goals as goal

pub returns : goal.returns
returns c = field-asleep c.args.self.now.automaton c.args.self.now.first c.args.self.now.begins
