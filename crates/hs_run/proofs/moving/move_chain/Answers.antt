use Rattle.std.proofs.Common.{[], ◌∷◌, ◌++◌, arith}
use Rattle.hs_base.specs.declared.context.Next.TheVariants as after
use Rattle.hs_base.specs.Contexts.{class_of}
use Rattle.hs_base.specs.ContextSets.{has_next}
use Rattle.hs_run.specs.Ends.{RowEnds}
use Rattle.hs_run.proofs.MovingLemmas.{noted, noted_last, row-ends}
use Rattle.hs_run.proofs.moving.move_chain.Goals as goal

pub returns-clause-moves : goal.returns-clause-moves
returns-clause-moves g c plan x u runs is kept =
    let b = c.args.arrival.now.byte in
    let there = c.requires.stands u is in
    let moved = c.step_chain-left.ensures.steps plan x u runs is kept in
    let before = row-ends c.args.program.now plan c.args.chain.now x u c.args.arrival.now.spot.at c.step_chain-left.result c.within_bounds.result c.entry_of-entry.result.now runs c.entry_of-entry.ensures is.offset (c.step_chain-left.ensures.leaves plan x u runs is kept) c.within_bounds.ensures in
    let behind = row-ends c.args.program.now plan c.args.chain.now x (u ++ b ∷ []) c.args.arrival.now.behind.at c.leave_chain-left_behind.result c.within_bounds-2.result c.entry_of-entry.result.now runs c.entry_of-entry.ensures there.offset (c.leave_chain-left_behind.ensures.leaves plan x (u ++ b ∷ []) runs there moved) c.within_bounds-2.ensures in
    let old = c.args.ends.now in
    let new = c.note.new.self in
    record {
      kept = moved;
      notes = record {
        before = noted (has_next c.within_bounds.result (class_of b)) old.before new.before (RowEnds x.pattern.id u (class_of b) x) (before (class_of b)) c.note.ensures.before;
        before_last = noted_last (has_next c.within_bounds.result after.FinalNewline) old.before_last new.before_last b (RowEnds x.pattern.id u after.FinalNewline x) (before after.FinalNewline) c.note.ensures.before_last;
        behind = noted (has_next c.within_bounds-2.result after.Unknown) old.behind new.behind (RowEnds x.pattern.id (u ++ b ∷ []) after.Unknown x) (behind after.Unknown) c.note.ensures.behind;
      };
    }

pub returns-clause-ticks : goal.returns-clause-ticks
returns-clause-ticks g c = omega (arith, c.step_chain-left.ensures.ticks, c.leave_chain-left_behind.ensures.ticks)
