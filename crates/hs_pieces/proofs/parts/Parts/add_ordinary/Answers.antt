use Rattle.std.proofs.Common.{◌∙◌, ◌++◌, ◌∷◌, [], map, ap, arith}
use Rattle.hs_expr.specs.Meaning.{tree_of}
use Rattle.hs_pieces.specs.Meaning.{plain_piece}
use Rattle.hs_pieces.specs.Splitting.{pieces_of_cut}
use Rattle.hs_pieces.proofs.StateLemmas.{ordinary-taken, ends-ordinary}
use Rattle.hs_pieces.proofs.parts.Parts.add_ordinary.Goals as goal

pub returns : goal.returns
returns c parts =
    ordinary-taken c.end_run.new.self.pieces.items c.end_run.new.self.items.items c.push.new.self.items
    c.end_run.new.self.run.items c.in_ok-copy.field-0 (tree_of c.args.item.now) parts
    c.in_ok-end_run.ensures.run c.in_ok-push.ensures.items c.in_ok-copy.ensures
    ∙ c.in_ok-end_run.ensures.same _
    ∙ ap (λ cut. map plain_piece c.args.self.now.pieces.items ++ pieces_of_cut (map tree_of c.args.self.now.items.items) cut)
    (ends-ordinary c.args.self.now.run.items (tree_of c.args.item.now ∷ []) parts (omega arith))
