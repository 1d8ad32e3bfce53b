use Rattle.std.proofs.Common.{arith}
use Rattle.hs_expr.specs.Counts.{positions}
use Rattle.hs_pieces.proofs.PositionLemmas.{chains-within}
use Rattle.hs_pieces.proofs.laws.pieces_have_no_more_positions.Goals as goal

pub returns : goal.returns
returns c t proper = chains-within t (positions t) proper (omega arith)
