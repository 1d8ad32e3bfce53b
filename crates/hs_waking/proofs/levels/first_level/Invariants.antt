use Rattle.std.proofs.Common.{◌≡◌, ℕ, ◌<◌, true, slice_get}
use Rattle.hs_base.specs.Bits.{has_word_bit}
use Rattle.hs_base.specs.Contexts.{Context}
use Rattle.hs_engine.specs.Automata.{in_mask}
use Rattle.hs_waking.proofs.levels.first_level.Given as goal

abbrev pub invariant-loop-position : goal.invariant-loop-position
invariant-loop-position l = (x : ℕ) (c : Context) → x < l.position → in_mask (slice_get l.enters x) c ≡ true → has_word_bit l.level x ≡ true
