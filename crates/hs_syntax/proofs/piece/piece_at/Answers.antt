use Rattle.std.proofs.Common.{length, sym, subst}
use Rattle.hs_syntax.specs.Lengths.{PieceFits}
use Rattle.hs_syntax.proofs.EscapeFits.{piece_fits}
use Rattle.hs_syntax.proofs.piece.piece_at.Goals as goal

pub returns-clause-fits : goal.returns-clause-fits
returns-clause-fits c =
    subst (PieceFits (length c.args.bytes.now)) (sym c.piece_by.ensures) (piece_fits c.args.mode c.args.first c.args.bytes.now)
