use Rattle.std.proofs.Common.{arith}
use Rattle.hs_rose.proofs.RoleListLemmas.{none-more}
use Rattle.hs_rose.proofs.literals.no_roles.Goals as goal

pub loop-number-preserved : goal.loop-number-preserved
loop-number-preserved c = record {
  count = omega (arith, c.in_ok-push.ensures.len);
  empty = none-more c.loop-number.lists.items _ c.new.result c.in_ok-push.ensures.items c.new.ensures.items c.loop-number.invariant.empty;
}
