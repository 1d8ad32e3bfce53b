use Rattle.hs_limex.specs.LimexEngines.{moves_of_limex}
use Rattle.hs_limex.proofs.LimexLemmas.{tables-quiet}
use Rattle.hs_limex.proofs.limex.LimexEngine.at_rest.Goals as goal

pub returns-clause-quiet : goal.returns-clause-quiet
returns-clause-quiet c rests = tables-quiet (moves_of_limex c.args.self.now) c.args.region.now (c.is_zero.ensures.0 rests)
