use Rattle.hs_stream.proofs.DrawingLemmas.{entry-is, entry-next}
use Rattle.hs_stream.proofs.drawing.draw_entry.Goals as goal

pub returns-clause-drawn : goal.returns-clause-drawn
returns-clause-drawn c = entry-is c.args.id c.draw-made.result c.args.generator.now.number c.draw-made.new.self.number c.in_ok-text.text.items c.in_ok-text.ensures.drawn c.draw-made.ensures.value c.draw-made.ensures.next

pub returns-clause-next : goal.returns-clause-next
returns-clause-next c = entry-next c.draw-made.result c.args.generator.now.number c.draw-made.new.self.number c.draw_expression.new.generator.number c.in_ok-text.ensures.next c.draw-made.ensures.value c.draw-made.ensures.next
