use Rattle.std.proofs.Common.{ℕ, ◌<◌}
use Rattle.hs_engine.specs.Tables.{IsClearFrom}
use Rattle.hs_states.specs.StateSets.{set_bytes}
use Rattle.hs_dfa.proofs.set_dfa.are_clear.Given as goal

abbrev pub invariant-loop-number : goal.invariant-loop-number
invariant-loop-number l = (n : ℕ) → n < l.number → IsClearFrom (set_bytes l.sets n) l.size
