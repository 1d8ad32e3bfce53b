use Rattle.std.proofs.Common.{ap}
use Rattle.hs_base.specs.declared.context.Next.TheVariants as after
use Rattle.hs_base.specs.ContextSets.{has_next}
use Rattle.hs_run.specs.Ends.{RowEnds}
use Rattle.hs_run.proofs.MovingLemmas.{noted, row-ends}
use Rattle.hs_run.proofs.moving.end_chain.Goals as goal

pub returns-clause-ends : goal.returns-clause-ends
returns-clause-ends g c plan x u runs is kept =
    let tells = row-ends c.args.program.now plan c.args.chain.now x u c.args.spot.now.at c.leave_chain-left.result c.within_bounds.result c.entry_of-entry.result.now runs c.entry_of-entry.ensures is.offset (c.leave_chain-left.ensures.leaves plan x u runs is kept) c.within_bounds.ensures in
    noted (has_next c.within_bounds.result after.End) c.args.ends.now.behind c.note_end.new.self.behind (RowEnds x.pattern.id u after.End x) (tells after.End) (ap (λ e. e.behind) c.note_end.ensures)

pub returns-clause-ticks : goal.returns-clause-ticks
returns-clause-ticks g c = c.leave_chain-left.ensures.ticks
