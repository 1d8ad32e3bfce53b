use Rattle.std.proofs.Common.{subst, sym}
use Rattle.hs_base.specs.declared.byte_set.ByteSet.{ByteSet}
use Rattle.hs_engine.specs.Engines.{AreWakers}
use Rattle.hs_limex.specs.LimexEngines.{meaning_of_limex, moves_of_limex}
use Rattle.hs_limex.proofs.LimexLemmas.{tables-asleep}
use Rattle.hs_limex.proofs.limex.LimexEngine.wakers.Goals as goal

pub returns : goal.returns
returns c =
    subst (λ (set : ByteSet). AreWakers (meaning_of_limex c.args.self.now) set) (sym c.first.ensures)
    (tables-asleep (moves_of_limex c.args.self.now))
