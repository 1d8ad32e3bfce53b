use Rattle.std.proofs.Common.{arith}
use Rattle.hs_plain.specs.PlainPatterns.{pairs_of}
use Rattle.hs_plain.proofs.EndLemmas.{ends_below-more, ends_below-all}
use Rattle.hs_plain.proofs.pair_list.add_pattern.Goals as goal

pub loop-to-preserved : goal.loop-to-preserved
loop-to-preserved c =
    ends_below-more c.args.pattern.now c.in_ok-ends.ends c.loop-to.to (pairs_of c.args.found.now.items) (pairs_of c.loop-to.found.items) (pairs_of c.add_end.new.found.items) c.loop-to.invariant c.in_ok-add_end.ensures

pub returns : goal.returns
returns c =
    ends_below-all c.args.pattern.now c.args.stream.now c.args.ended c.in_ok-ends.ends c.loop-to.to (pairs_of c.args.found.now.items) (pairs_of c.loop-to.found.items) c.in_ok-ends.ensures.each (omega (arith, c.room-to-end.ensures)) c.loop-to.invariant
