use Rattle.std.proofs.Common.{◌≡◌, ℕ, ◌+◌, ◌*◌, ◌/◌, ◌%◌, ◌&&◌, nat_lt, slice_get}
use Rattle.hs_engine.specs.Automata.{in_set}
use Rattle.hs_limex.specs.SingleWords.{is_set}
use Rattle.hs_limex.proofs.small_filling.reach_word.Given as goal

abbrev pub invariant-loop-bit : goal.invariant-loop-bit
invariant-loop-bit l = (i : ℕ) → is_set l.word i ≡ (nat_lt i l.bit && in_set (slice_get l.sets ((64 * l.number + i) % l.pitch)) ((64 * l.number + i) / l.pitch))
