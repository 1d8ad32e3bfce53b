use Rattle.std.proofs.Common.{◌≡◌, ℕ, ◌<◌, true}
use Rattle.hs_limex.specs.SingleWords.{IsLedBut, is_set}
use Rattle.hs_limex.specs.SmallMoves.{small_follows}
use Rattle.hs_limex.proofs.small.Small.lead_on.Given as goal

abbrev pub invariant-loop-left : goal.invariant-loop-left
invariant-loop-left l = record {
  led : IsLedBut (small_follows l.self) l.live l.left l.led;
  live : (x : ℕ) → is_set l.left x ≡ true → is_set l.live x ≡ true;
  few : (x : ℕ) → is_set l.left x ≡ true → x < l.self.size;
}

abbrev pub decreases-loop-left : goal.decreases-loop-left
decreases-loop-left l = l.left
