use Rattle.std.proofs.Common.{ℕ, subst}
use Rattle.hs_syntax.specs.Lengths.{PieceFits}
use Rattle.hs_parse.proofs.ItemLemmas.{left_length}
use Rattle.hs_parse.proofs.item.class_piece.Goals as goal

pub returns-clause-fits : goal.returns-clause-fits
returns-clause-fits c =
    subst (λ (n : ℕ). PieceFits n c.piece_at.result) (left_length c.args.text.now c.args.at) c.piece_at.ensures.fits
