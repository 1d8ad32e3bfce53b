use Rattle.std.proofs.Common.{arith}
use Rattle.hs_forest.proofs.GroupLemmas.{none-more}
use Rattle.hs_forest.proofs.groups.no_lists.Goals as goal

pub loop-owner-preserved : goal.loop-owner-preserved
loop-owner-preserved c = record {
  count = omega (arith, c.in_ok-push.ensures.len);
  empty = none-more c.loop-owner.lists.items _ c.new.result c.in_ok-push.ensures.items c.new.ensures.items c.loop-owner.invariant.empty;
}
