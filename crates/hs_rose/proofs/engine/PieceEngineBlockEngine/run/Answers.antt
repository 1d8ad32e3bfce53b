use Rattle.std.proofs.Common.{sym, subst}
use Rattle.hs_block.specs.Blocks.{TakesBlock}
use Rattle.hs_rose.specs.declared.engine.PieceEngine.{PieceEngine}
use Rattle.hs_rose.specs.declared.positions.PositionEngine.{PositionEngine}
use Rattle.hs_rose.specs.PieceEngines.{piece_meaning}
use Rattle.hs_rose.specs.PositionEngines.{meaning_of_positions}
use Rattle.hs_rose.proofs.engine.PieceEngineBlockEngine.run.Goals as goal

pub returns-in-Positions-clause-takes : goal.returns-in-Positions-clause-takes
returns-in-Positions-clause-takes g c =
    subst (λ (e : PieceEngine). TakesBlock (piece_meaning e) c.args.region.now c.run.new.region c.args.prev c.args.at c.args.enters c.args.bytes.now c.run.result c.args.steps.now c.run.new.steps) (sym c.in-Positions.is)
    (subst (λ (p : PositionEngine). TakesBlock (meaning_of_positions p) c.args.region.now c.run.new.region c.args.prev c.args.at c.args.enters c.args.bytes.now c.run.result c.args.steps.now c.run.new.steps) c.deref.ensures c.run.ensures.takes)
