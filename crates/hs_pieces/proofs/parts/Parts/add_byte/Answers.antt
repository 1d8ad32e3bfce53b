use Rattle.std.proofs.Common.{◌∙◌, ◌∷◌, ◌++◌, [], ap, arith}
use Rattle.hs_pieces.proofs.StateLemmas.{full-complete}
use Rattle.hs_pieces.proofs.parts.Parts.add_byte.Goals as goal

pub returns : goal.returns
returns c parts =
    full-complete c.args.self.now.pieces.items c.end_items.new.self.pieces.items c.push-3.new.self.items
    c.args.self.now.items.items c.end_items.new.self.items.items
    c.args.self.now.run.items c.replace-full.new.dest.items c.push-2.new.self c.args.byte parts
    c.in_ok-end_items.ensures.pieces c.in_ok-end_items.ensures.items
    (ap (λ all. all.items) c.replace-full.ensures.after ∙ c.new.ensures.items)
    (c.in_ok-push-2.ensures.items
    ∙ ap (λ all. all.items ++ c.args.byte ∷ []) c.replace-full.ensures.value
    ∙ ap (λ all. all ++ c.args.byte ∷ []) c.in_ok-end_items.ensures.run)
    (omega arith)
    c.in_ok-push-3.ensures.items
