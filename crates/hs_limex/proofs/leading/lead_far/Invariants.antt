use Rattle.std.proofs.Common.{◌≡◌, ℕ, ◌*◌, ◌||◌, length}
use Rattle.hs_engine.specs.AnyBelow.{any_below}
use Rattle.hs_base.specs.Bits.{has_word_bit}
use Rattle.hs_limex.specs.Leading.{far_leads}
use Rattle.hs_limex.proofs.leading.lead_far.Given as goal

abbrev pub invariant-loop-place : goal.invariant-loop-place
invariant-loop-place l = record {
  len : length l.led ≡ length l.initial.led;
  bits : (k : ℕ) → has_word_bit l.led k ≡ (any_below (64 * l.place) (far_leads l.follows l.live l.far (record { prev = l.prev; next = l.next }) k) || has_word_bit l.initial.led k);
}
