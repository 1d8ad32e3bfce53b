use Rattle.std.proofs.Common.{ℕ, Option, sym, subst}
use Rattle.hs_base.specs.ByteSets.{members}
use Rattle.hs_base.specs.Chains.{rep}
use Rattle.hs_rose.specs.declared.engine.PieceEngine.TheVariants as engine
use Rattle.hs_rose.specs.PieceEngines.{IsEngineOf}
use Rattle.hs_rose.proofs.MakeLemmas.{first-engine}
use Rattle.hs_rose.proofs.making.repeat_engine.Goals as goal

pub returns-in-None : goal.returns-in-None
returns-in-None c =
    subst (λ (m : Option ℕ). IsEngineOf (engine.First c.new.result) (rep (members c.args.set) c.args.least m)) (sym c.in-None.is) (first-engine c.new.result (members c.args.set) c.args.least c.new.ensures)
