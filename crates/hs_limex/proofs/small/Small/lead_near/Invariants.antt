use Rattle.hs_limex.specs.SingleWords.{IsNearLed}
use Rattle.hs_limex.specs.SmallMoves.{small_follows}
use Rattle.hs_limex.proofs.small.Small.lead_near.Given as goal

abbrev pub invariant-loop-distance : goal.invariant-loop-distance
invariant-loop-distance l = IsNearLed (small_follows l.self) l.live l.distance l.led
