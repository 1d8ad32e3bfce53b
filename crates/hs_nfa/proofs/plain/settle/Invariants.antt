use Rattle.std.proofs.Common.{◌≡◌, ℕ, ◌&&◌, false}
use Rattle.std.specs.Prelude.{nat_lt}
use Rattle.hs_base.specs.Bits.{has_bit}
use Rattle.hs_engine.specs.Tables.{is_moved}
use Rattle.hs_nfa.proofs.plain.settle.Given as goal

abbrev pub invariant-loop-position : goal.invariant-loop-position
invariant-loop-position l = record {
  bits : (k : ℕ) → has_bit l.region k ≡ (nat_lt k l.position && is_moved l.automaton l.led (record { prev = l.prev; next = l.next }) l.entering l.byte k);
  stays : ((k : ℕ) → is_moved l.automaton l.led (record { prev = l.prev; next = l.next }) l.entering l.byte k ≡ false) → l.region ≡ l.initial.region;
}
