use Rattle.std.proofs.Common.{◌≡◌, ℕ, ◌||◌, length}
use Rattle.hs_engine.specs.AnyBelow.{any_below}
use Rattle.hs_base.specs.Bits.{has_word_bit}
use Rattle.hs_limex.specs.Leading.{near_leads}
use Rattle.hs_limex.proofs.leading.lead_near.Given as goal

abbrev pub invariant-loop-distance : goal.invariant-loop-distance
invariant-loop-distance g l = record {
  len : length l.led ≡ length l.initial.led;
  bits : (k : ℕ) → has_word_bit l.led k ≡ (any_below l.distance (near_leads l.near l.live l.number k) || has_word_bit l.initial.led k);
}
