use Rattle.std.proofs.Common.{◌≡◌, ℕ, ◌&&◌, slice_get}
use Rattle.std.specs.Prelude.{nat_lt}
use Rattle.hs_base.specs.Bits.{has_word_bit}
use Rattle.hs_engine.specs.Automata.{in_mask}
use Rattle.hs_engine.specs.Between.{between}
use Rattle.hs_states.proofs.footing.entered.Given as goal

abbrev pub invariant-loop-position : goal.invariant-loop-position
invariant-loop-position l = (k : ℕ) → has_word_bit l.words k ≡ (nat_lt k l.position && in_mask (slice_get l.masks k) (between l.prev l.next))
