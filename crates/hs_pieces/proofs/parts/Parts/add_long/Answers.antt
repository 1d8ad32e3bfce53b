use Rattle.std.proofs.Common.{◌∙◌, ◌++◌, map, ap, arith}
use Rattle.hs_base.specs.ByteSets.{members}
use Rattle.hs_expr.specs.Meaning.{tree_of}
use Rattle.hs_pieces.specs.Meaning.{plain_piece}
use Rattle.hs_pieces.specs.Splitting.{pieces_of_cut}
use Rattle.hs_pieces.proofs.StateLemmas.{long-taken, ends-long}
use Rattle.hs_pieces.proofs.parts.Parts.add_long.Goals as goal

pub returns : goal.returns
returns c parts =
    long-taken c.end_run.new.self.pieces.items c.end_items.new.self.pieces.items c.push.new.self.items
    c.end_run.new.self.items.items c.end_items.new.self.items.items c.end_items.new.self.run.items
    c.args.set c.args.least c.args.greatest parts
    c.in_ok-end_items.ensures.pieces c.in_ok-end_items.ensures.items
    (c.in_ok-end_items.ensures.run ∙ c.in_ok-end_run.ensures.run) c.in_ok-push.ensures.items
    ∙ c.in_ok-end_run.ensures.same _
    ∙ ap (λ cut. map plain_piece c.args.self.now.pieces.items ++ pieces_of_cut (map tree_of c.args.self.now.items.items) cut)
    (ends-long c.args.self.now.run.items (members c.args.set) c.args.least c.args.greatest parts (omega arith))
