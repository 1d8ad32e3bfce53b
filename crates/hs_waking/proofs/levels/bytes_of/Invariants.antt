use Rattle.std.proofs.Common.{◌≡◌, ℕ, ◌<◌, true, slice_get}
use Rattle.hs_base.specs.Bits.{has_word_bit}
use Rattle.hs_base.specs.ByteSets.{has}
use Rattle.hs_engine.specs.Automata.{in_set}
use Rattle.hs_waking.proofs.levels.bytes_of.Given as goal

abbrev pub invariant-loop-position : goal.invariant-loop-position
invariant-loop-position l = (x b : ℕ) → x < l.position → b < 256 → has_word_bit l.level x ≡ true → in_set (slice_get l.sets x) b ≡ true → has l.bytes b ≡ true
