use Rattle.hs_stream.proofs.DrawingLemmas.{entries-more, entries-next, pushed}
use Rattle.hs_stream.proofs.drawing.draw_entries.Goals as goal

pub loop-number-preserved : goal.loop-number-preserved
loop-number-preserved c =
    let kept = c.loop-number.invariant in
    record {
      drawn = pushed c.in_ok-push.ensures.items (entries-more c.loop-number.number c.args.generator.now.number c.loop-number.generator.number c.loop-number.drawn.items c.in_ok-entry.entry kept.drawn kept.next c.in_ok-entry.ensures.drawn);
      next = entries-next c.loop-number.number c.args.generator.now.number c.loop-number.generator.number c.draw_entry.new.generator.number kept.next c.in_ok-entry.ensures.next;
    }
