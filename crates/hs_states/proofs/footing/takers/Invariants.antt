use Rattle.std.proofs.Common.{◌≡◌, ℕ, ◌&&◌, slice_get}
use Rattle.std.specs.Prelude.{nat_lt}
use Rattle.hs_base.specs.Bits.{has_word_bit}
use Rattle.hs_engine.specs.Automata.{in_set}
use Rattle.hs_states.proofs.footing.takers.Given as goal

abbrev pub invariant-loop-position : goal.invariant-loop-position
invariant-loop-position l = (k : ℕ) → has_word_bit l.words k ≡ (nat_lt k l.position && in_set (slice_get l.sets k) l.byte)
