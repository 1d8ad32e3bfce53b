use Rattle.std.proofs.Common.{◌≡◌, ℕ, ◌<◌, true}
use Rattle.hs_base.specs.Bits.{has_word_bit}
use Rattle.hs_base.specs.Contexts.{Context}
use Rattle.hs_engine.specs.Rows.{in_row}
use Rattle.hs_waking.proofs.levels.next_level.Given as goal

abbrev pub invariant-loop-position : goal.invariant-loop-position
invariant-loop-position l = (x y : ℕ) (c : Context) → x < l.position → has_word_bit l.level x ≡ true → in_row l.follows x y c ≡ true → has_word_bit l.next y ≡ true
