use Rattle.std.proofs.Common.{arith}
use Rattle.hs_base.specs.ByteSets.{has}
use Rattle.hs_pool.proofs.AsleepLemmas.{unwoken-at}
use Rattle.hs_pool.proofs.running.first_busy.Goals as goal

pub returns-then-not-is_zero-clause-asleep : goal.returns-then-not-is_zero-clause-asleep
returns-then-not-is_zero-clause-asleep g c = record {
  wakers = c.wakers-wakers.result.now;
  are = c.wakers-wakers.ensures;
  none = λ i low. absurd (omega (arith, low));
}

pub returns-clause-asleep : goal.returns-clause-asleep
returns-clause-asleep g c = record {
  wakers = c.wakers-wakers.result.now;
  are = c.wakers-wakers.ensures;
  none = λ i low.
      unwoken-at c.args.enters c.member_places.result (has c.wakers-wakers.result.now) c.args.bytes.now i (omega (arith, low, c.next_place.ensures.high)) c.member_places.ensures
      (c.next_place.ensures.none i (omega arith) low);
}
