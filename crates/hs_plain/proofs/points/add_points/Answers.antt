use Rattle.std.proofs.Common.{subst, sym, take, get_or}
use Rattle.std.proofs.lemmas.List.{take_more}
use Rattle.hs_base.specs.Spans.{IsPointOf}
use Rattle.hs_plain.specs.OffsetSets.{AddsOffsets}
use Rattle.hs_plain.proofs.PointLemmas.{points_of-more}
use Rattle.hs_plain.proofs.points.add_points.Goals as goal

pub loop-i-preserved : goal.loop-i-preserved
loop-i-preserved c =
    let ranges = c.args.ranges.now in
    let i = c.loop-i.i in
    subst (λ rs. AddsOffsets (IsPointOf rs c.args.stream.now c.args.at) c.args.ends.now c.add_range.new.ends) (sym (take_more ranges i (0, 0) c.loop-i-test.true))
    (points_of-more (take i ranges) (get_or ranges i (0, 0)) c.args.stream.now c.args.at c.args.ends.now c.loop-i.ends c.add_range.new.ends c.loop-i.invariant c.add_range.ensures)
