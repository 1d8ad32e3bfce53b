-- The engine of a piece may be entered anywhere.
use Rattle.std.proofs.Common.{ℕ}
use Rattle.std.proofs.lemmas.Bool.{false≢true}
use Rattle.hs_block.specs.Blocks.{IsEnteredThroughout}
use Rattle.hs_rose.specs.declared.engine.PieceEngine.{PieceEngine}
use Rattle.hs_rose.specs.declared.engine.PieceEngine.TheVariants.{Positions, First, Last, Ring}
use Rattle.hs_rose.specs.PieceEngines.{piece_meaning}

pub entered-anywhere : (engine : PieceEngine) (enters count : ℕ) → IsEnteredThroughout (piece_meaning engine) enters count
entered-anywhere (Positions positions) enters count is = absurd (false≢true is)
entered-anywhere (First first) enters count is = absurd (false≢true is)
entered-anywhere (Last last) enters count is = absurd (false≢true is)
entered-anywhere (Ring ring) enters count is = absurd (false≢true is)
