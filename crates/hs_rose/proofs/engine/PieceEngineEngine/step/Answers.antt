use Rattle.std.proofs.Common.{sym, subst}
use Rattle.hs_engine.specs.Engines.{TakesByte}
use Rattle.hs_rose.specs.declared.positions.PositionEngine.{PositionEngine}
use Rattle.hs_rose.specs.PositionEngines.{meaning_of_positions}
use Rattle.hs_rose.specs.declared.engine.PieceEngine.{PieceEngine}
use Rattle.hs_rose.specs.PieceEngines.{piece_meaning}
use Rattle.hs_rose.proofs.engine.PieceEngineEngine.step.Goals as goal

pub returns-in-Positions-clause-takes : goal.returns-in-Positions-clause-takes
returns-in-Positions-clause-takes g c =
    subst (λ (e : PieceEngine). TakesByte (piece_meaning e) c.args.region.now c.step.new.region c.args.prev c.args.at c.args.enter c.args.byte) (sym c.in-Positions.is)
    (subst (λ (l : PositionEngine). TakesByte (meaning_of_positions l) c.args.region.now c.step.new.region c.args.prev c.args.at c.args.enter c.args.byte) c.deref.ensures c.step.ensures.takes)

pub returns-in-First-clause-takes : goal.returns-in-First-clause-takes
returns-in-First-clause-takes g c =
    subst (λ (e : PieceEngine). TakesByte (piece_meaning e) c.args.region.now c.step-in-First.new.region c.args.prev c.args.at c.args.enter c.args.byte) (sym c.in-First.is)
    c.step-in-First.ensures.takes

pub returns-in-Last-clause-takes : goal.returns-in-Last-clause-takes
returns-in-Last-clause-takes g c =
    subst (λ (e : PieceEngine). TakesByte (piece_meaning e) c.args.region.now c.step-in-Last.new.region c.args.prev c.args.at c.args.enter c.args.byte) (sym c.in-Last.is)
    c.step-in-Last.ensures.takes

pub returns-in-Ring-clause-takes : goal.returns-in-Ring-clause-takes
returns-in-Ring-clause-takes g c =
    subst (λ (e : PieceEngine). TakesByte (piece_meaning e) c.args.region.now c.step-in-Ring.new.region c.args.prev c.args.at c.args.enter c.args.byte) (sym c.in-Ring.is)
    c.step-in-Ring.ensures.takes
