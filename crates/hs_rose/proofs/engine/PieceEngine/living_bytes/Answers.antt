use Rattle.std.proofs.Common.{sym, subst}
use Rattle.hs_rose.specs.PieceEngines.{piece_meaning}
use Rattle.hs_rose.specs.PositionEngines.{meaning_of_positions}
use Rattle.hs_rose.specs.declared.engine.PieceEngine.{PieceEngine}
use Rattle.hs_rose.specs.declared.positions.PositionEngine.{PositionEngine}
use Rattle.hs_rose.proofs.LivingByteLemmas.{TellsLiving, all-tells}
use Rattle.hs_rose.proofs.engine.PieceEngine.living_bytes.Goals as goal

pub returns-in-Positions : goal.returns-in-Positions
returns-in-Positions c =
    subst (λ (e : PieceEngine). TellsLiving (piece_meaning e) c.living_bytes.result) (sym c.in-Positions.is)
    (subst (λ (l : PositionEngine). TellsLiving (meaning_of_positions l) c.living_bytes.result) c.deref.ensures c.living_bytes.ensures)

pub returns-in-First : goal.returns-in-First
returns-in-First c = all-tells (piece_meaning c.args.self.now)

pub returns-in-First-2 : goal.returns-in-First-2
returns-in-First-2 c = all-tells (piece_meaning c.args.self.now)

pub returns-in-First-3 : goal.returns-in-First-3
returns-in-First-3 c = all-tells (piece_meaning c.args.self.now)
