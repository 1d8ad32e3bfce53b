use Rattle.std.proofs.Common.{ℕ, sym, subst}
use Rattle.hs_engine.specs.Engines.{IsStart}
use Rattle.hs_rose.specs.declared.positions.PositionEngine.{PositionEngine}
use Rattle.hs_rose.specs.PositionEngines.{meaning_of_positions}
use Rattle.hs_rose.specs.declared.engine.PieceEngine.{PieceEngine}
use Rattle.hs_rose.specs.PieceEngines.{piece_meaning}
use Rattle.hs_rose.proofs.engine.PieceEngineEngine.clear.Goals as goal

pub returns-in-Positions-clause-starts : goal.returns-in-Positions-clause-starts
returns-in-Positions-clause-starts c =
    subst (λ (e : PieceEngine). IsStart (piece_meaning e) c.clear.new.region) (sym c.in-Positions.is)
    (subst (λ (l : PositionEngine). IsStart (meaning_of_positions l) c.clear.new.region) c.deref.ensures c.clear.ensures.starts)

pub returns-in-Positions-clause-well : goal.returns-in-Positions-clause-well
returns-in-Positions-clause-well c =
    subst (λ (e : PieceEngine). (at : ℕ) → (piece_meaning e).well c.clear.new.region at) (sym c.in-Positions.is)
    (subst (λ (l : PositionEngine). (at : ℕ) → (meaning_of_positions l).well c.clear.new.region at) c.deref.ensures c.clear.ensures.well)
