use Rattle.hs_limex.specs.LimexEngines.{moves_of_limex}
use Rattle.hs_rose.proofs.LivingByteLemmas.{living-told}
use Rattle.hs_rose.proofs.positions.PositionEngine.living_bytes.Goals as goal

pub returns : goal.returns
returns c = let own = c.args.self.now in living-told (moves_of_limex own.limex) own.living own.living_has
