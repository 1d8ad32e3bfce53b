use Rattle.std.proofs.Common.{sym, subst, ap, ◌∙◌}
use Rattle.std.specs.Prelude.{not}
use Rattle.hs_rose.specs.PieceEngines.{piece_meaning}
use Rattle.hs_rose.specs.PositionEngines.{meaning_of_positions}
use Rattle.hs_rose.specs.declared.engine.PieceEngine.{PieceEngine}
use Rattle.hs_rose.specs.declared.positions.PositionEngine.{PositionEngine}
use Rattle.hs_waking.proofs.PrevLemmas.{empty-has}
use Rattle.hs_rose.proofs.engine.PieceEngine.last_bytes.Goals as goal

pub returns-in-Positions : goal.returns-in-Positions
returns-in-Positions c tree u b entered next is small leaves =
    c.last_bytes.ensures tree u b entered next
    (subst (λ (l : PositionEngine). (meaning_of_positions l).is_for tree) (sym c.deref.ensures) (subst (λ (e : PieceEngine). (piece_meaning e).is_for tree) c.in-Positions.is is)) small leaves

pub returns-in-First : goal.returns-in-First
returns-in-First c tree u b entered next is small leaves = c.complement.ensures b small ∙ ap not (empty-has b small)
