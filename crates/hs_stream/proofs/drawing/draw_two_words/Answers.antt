use Rattle.std.proofs.Common.{◌∙◌, ap, ◌++◌}
use Rattle.hs_stream.proofs.DrawingLemmas.{two-words}
use Rattle.hs_stream.proofs.drawing.draw_two_words.Goals as goal

pub returns-clause-drawn : goal.returns-clause-drawn
returns-clause-drawn c =
    two-words c.letters-first.result c.args.between.now c.letters-second.result c.extend_from_slice.new.self.items c.extend_from_slice-2.new.self.items c.extend_from_slice-3.new.self.items c.args.generator.now.number c.letters-first.new.self.number
    c.letters-first.ensures.value c.letters-first.ensures.next c.letters-second.ensures.value
    (c.in_ok-extend_from_slice.ensures.items ∙ ap (λ l. l ++ c.letters-first.result) c.new-text.ensures.items)
    c.in_ok-extend_from_slice-2.ensures.items c.in_ok-extend_from_slice-3.ensures.items
