use Rattle.hs_limex.specs.LimexEngines.{moves_of_limex}
use Rattle.hs_rose.proofs.LastByteLemmas.{last-told}
use Rattle.hs_rose.proofs.positions.PositionEngine.last_bytes.Goals as goal

pub returns : goal.returns
returns c = let own = c.args.self.now in last-told (moves_of_limex own.limex) own.last own.last_has
