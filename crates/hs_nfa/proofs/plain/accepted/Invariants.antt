use Rattle.std.proofs.Common.{◌≡◌, ℕ, ◌<◌, true, slice_get}
use Rattle.hs_base.specs.declared.context.Next.{Next}
use Rattle.hs_base.specs.ContextSets.{has_next}
use Rattle.hs_engine.specs.Automata.{in_mask}
use Rattle.hs_base.specs.Bits.{has_bit}
use Rattle.hs_nfa.proofs.plain.accepted.Given as goal

abbrev pub invariant-loop-position : goal.invariant-loop-position
invariant-loop-position l = record {
  sound : (next : Next) → has_next l.all next ≡ true → (x : ℕ) × (has_bit l.region x ≡ true) × (in_mask (slice_get l.accepts x) (record { prev = l.prev; next = next }) ≡ true);
  whole : (next : Next) (x : ℕ) → x < l.position → has_bit l.region x ≡ true → in_mask (slice_get l.accepts x) (record { prev = l.prev; next = next }) ≡ true → has_next l.all next ≡ true;
}
