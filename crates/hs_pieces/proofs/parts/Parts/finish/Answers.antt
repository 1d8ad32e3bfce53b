use Rattle.std.proofs.Common.{◌∙◌, ◌++◌, [], map, ap, arith}
use Rattle.hs_expr.specs.Meaning.{tree_of}
use Rattle.hs_pieces.specs.Meaning.{plain_piece}
use Rattle.hs_pieces.specs.Splitting.{pieces_of_cut}
use Rattle.hs_pieces.proofs.PartLemmas.{all-complete}
use Rattle.hs_pieces.proofs.StateLemmas.{ends-none}
use Rattle.hs_pieces.proofs.parts.Parts.finish.Goals as goal

pub returns : goal.returns
returns c =
    all-complete (map plain_piece c.end_run.new.self.pieces.items) (map plain_piece c.end_items.new.self.pieces.items)
    (map tree_of c.end_run.new.self.items.items) c.in_ok-end_items.ensures.pieces
    ∙ c.in_ok-end_run.ensures.same []
    ∙ ap (λ cut. map plain_piece c.args.self.pieces.items ++ pieces_of_cut (map tree_of c.args.self.items.items) cut)
    (ends-none c.args.self.run.items (omega arith))
