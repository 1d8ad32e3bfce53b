use Rattle.std.proofs.Common.{◌∙◌, ap, length, slice_get, arith}
use Rattle.hs_pieces.proofs.StateLemmas.{byte-complete, one-only}
use Rattle.hs_pieces.proofs.parts.Parts.end_run.Goals as goal

pub returns-clause-same : goal.returns-clause-same
returns-clause-same c cut =
    byte-complete c.args.self.now.pieces.items c.args.self.now.items.items c.push-2.new.self.items
    c.args.self.now.run.items c.in-Some.byte.now c.set.result cut
    (one-only c.args.self.now.run.items c.in-Some.byte.now (omega (arith, ap (λ all. length all.items) c.replace-run.ensures.value))
    (c.in-Some.ensures.value ∙ ap (λ xs. slice_get xs 0) (c.deref.ensures.value ∙ ap (λ all. all.items) c.replace-run.ensures.value)))
    c.set.ensures
    c.in_ok-push-2.ensures.items
