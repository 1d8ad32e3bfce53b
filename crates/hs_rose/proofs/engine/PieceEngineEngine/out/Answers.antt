use Rattle.std.proofs.Common.{sym, subst}
use Rattle.hs_engine.specs.Engines.{TellsLeaves}
use Rattle.hs_rose.specs.declared.positions.PositionEngine.{PositionEngine}
use Rattle.hs_rose.specs.PositionEngines.{meaning_of_positions}
use Rattle.hs_rose.specs.declared.engine.PieceEngine.{PieceEngine}
use Rattle.hs_rose.specs.PieceEngines.{piece_meaning}
use Rattle.hs_rose.proofs.engine.PieceEngineEngine.out.Goals as goal

pub returns-in-Positions-clause-leaves : goal.returns-in-Positions-clause-leaves
returns-in-Positions-clause-leaves c =
    subst (λ (e : PieceEngine). TellsLeaves (piece_meaning e) c.args.region.now c.args.prev c.args.at c.out.result) (sym c.in-Positions.is)
    (subst (λ (l : PositionEngine). TellsLeaves (meaning_of_positions l) c.args.region.now c.args.prev c.args.at c.out.result) c.deref.ensures c.out.ensures.leaves)

pub returns-in-First-clause-leaves : goal.returns-in-First-clause-leaves
returns-in-First-clause-leaves c =
    subst (λ (e : PieceEngine). TellsLeaves (piece_meaning e) c.args.region.now c.args.prev c.args.at c.out-in-First.result) (sym c.in-First.is)
    c.out-in-First.ensures.leaves

pub returns-in-Last-clause-leaves : goal.returns-in-Last-clause-leaves
returns-in-Last-clause-leaves c =
    subst (λ (e : PieceEngine). TellsLeaves (piece_meaning e) c.args.region.now c.args.prev c.args.at c.out-in-Last.result) (sym c.in-Last.is)
    c.out-in-Last.ensures.leaves

pub returns-in-Ring-clause-leaves : goal.returns-in-Ring-clause-leaves
returns-in-Ring-clause-leaves c =
    subst (λ (e : PieceEngine). TellsLeaves (piece_meaning e) c.args.region.now c.args.prev c.args.at c.out-in-Ring.result) (sym c.in-Ring.is)
    c.out-in-Ring.ensures.leaves
