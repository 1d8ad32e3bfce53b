use Rattle.std.proofs.Common.{◌≡◌, ℕ, ◌*◌, ◌||◌, length}
use Rattle.hs_base.specs.Bits.{has_bit}
use Rattle.hs_engine.specs.AnyBelow.{any_below}
use Rattle.hs_engine.specs.Tables.{leads_to}
use Rattle.hs_nfa.proofs.plain.follow.Given as goal

abbrev pub invariant-loop-place : goal.invariant-loop-place
invariant-loop-place l = record {
  len : length l.led ≡ length l.initial.led;
  bits : (k : ℕ) → has_bit l.led k ≡ (any_below (8 * l.place) (leads_to l.follows l.region (record { prev = l.prev; next = l.next }) k) || has_bit l.initial.led k);
}
