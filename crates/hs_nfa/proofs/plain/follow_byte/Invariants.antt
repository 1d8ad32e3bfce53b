use Rattle.std.proofs.Common.{◌≡◌, ℕ, ◌*◌, Bool, ◌||◌, length}
use Rattle.hs_base.specs.Bits.{has_bit}
use Rattle.hs_engine.specs.AnyBelow.{any_below}
use Rattle.hs_engine.specs.Tables.{leads_to}
use Rattle.hs_nfa.proofs.plain.follow_byte.Given as goal

abbrev pub invariant-loop-position : goal.invariant-loop-position
invariant-loop-position l = record {
  len : length l.led ≡ length l.initial.led;
  bits : (k : ℕ) (first : Bool) → has_bit l.initial.led k ≡ (any_below (8 * l.place) (leads_to l.follows l.region (record { prev = l.prev; next = l.next }) k) || first) →
      has_bit l.led k ≡ (any_below l.position (leads_to l.follows l.region (record { prev = l.prev; next = l.next }) k) || first);
}
