use Rattle.std.proofs.Common.{sym, subst}
use Rattle.hs_engine.specs.Engines.{AreWakers}
use Rattle.hs_rose.specs.declared.positions.PositionEngine.{PositionEngine}
use Rattle.hs_rose.specs.PositionEngines.{meaning_of_positions}
use Rattle.hs_rose.specs.declared.engine.PieceEngine.{PieceEngine}
use Rattle.hs_rose.specs.PieceEngines.{piece_meaning}
use Rattle.hs_rose.proofs.engine.PieceEngineEngine.wakers.Goals as goal

pub returns-in-Positions : goal.returns-in-Positions
returns-in-Positions c =
    subst (λ (e : PieceEngine). AreWakers (piece_meaning e) c.wakers.result.now) (sym c.in-Positions.is)
    (subst (λ (l : PositionEngine). AreWakers (meaning_of_positions l) c.wakers.result.now) c.deref.ensures c.wakers.ensures)

pub returns-in-First : goal.returns-in-First
returns-in-First c =
    subst (λ (e : PieceEngine). AreWakers (piece_meaning e) c.wakers-in-First.result.now) (sym c.in-First.is)
    c.wakers-in-First.ensures

pub returns-in-Last : goal.returns-in-Last
returns-in-Last c =
    subst (λ (e : PieceEngine). AreWakers (piece_meaning e) c.wakers-in-Last.result.now) (sym c.in-Last.is)
    c.wakers-in-Last.ensures

pub returns-in-Ring : goal.returns-in-Ring
returns-in-Ring c =
    subst (λ (e : PieceEngine). AreWakers (piece_meaning e) c.wakers-in-Ring.result.now) (sym c.in-Ring.is)
    c.wakers-in-Ring.ensures
