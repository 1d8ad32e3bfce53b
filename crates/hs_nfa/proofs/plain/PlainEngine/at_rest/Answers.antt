use Rattle.hs_limex.proofs.PlainLemmas.{field-quiet}
use Rattle.hs_nfa.proofs.plain.PlainEngine.at_rest.Goals as goal

pub returns-clause-quiet : goal.returns-clause-quiet
returns-clause-quiet c rests = field-quiet c.args.self.now.automaton c.args.region.now (c.is_zero.ensures.0 rests)
