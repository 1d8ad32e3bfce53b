use Rattle.std.proofs.Common.{arith, bit_or, subst}
use Rattle.hs_base.specs.RepeatRows.{distance_of}
use Rattle.hs_repeat.specs.RepeatBlocks.{TakesDistances}
use Rattle.hs_repeat.proofs.LastBlockLemmas.{behind-fits, takes-distances}
use Rattle.hs_repeat.proofs.last.Last.run_whole.Goals as goal

pub write-requires-clause-fits : goal.write-requires-clause-fits
write-requires-clause-fits c =
    let kept = c.args.self.now.nearest in
    let behind = c.distance_behind_block-behind in
    behind-fits kept.set kept.bound c.read-distance.result c.args.enters c.args.bytes.now c.member_places-class.result c.in-Some.reached c.kept_places-kept.result (omega arith) c.requires.whole
    c.member_places-class.ensures c.in-Some.ensures c.kept_places-kept.ensures behind.result behind.ensures.reached behind.ensures.kept behind.ensures.gone

pub returns-clause-takes : goal.returns-clause-takes
returns-clause-takes c =
    let kept = c.args.self.now.nearest in
    let behind = c.distance_behind_block-behind in
    subst (λ old. TakesDistances kept.set kept.bound old (distance_of c.write.new.row) c.args.enters c.args.bytes.now (bit_or c.in-Some.reached c.low_places.result)) c.read-distance.ensures
    (takes-distances kept.set kept.bound c.read-distance.result c.args.enters c.args.bytes.now c.member_places-class.result c.in-Some.reached c.kept_places-kept.result (omega arith) c.requires.whole
    c.member_places-class.ensures c.in-Some.ensures c.kept_places-kept.ensures behind.result behind.ensures.reached behind.ensures.kept behind.ensures.gone
    (distance_of c.write.new.row) c.low_places.result c.write.ensures.value c.low_places.ensures)
