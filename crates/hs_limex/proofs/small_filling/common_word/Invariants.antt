use Rattle.std.proofs.Common.{◌≡◌, ℕ, ◌&&◌, nat_lt, slice_get}
use Rattle.hs_base.specs.Contexts.{Context}
use Rattle.hs_engine.specs.Automata.{in_mask}
use Rattle.hs_limex.specs.SingleWords.{is_set}
use Rattle.hs_limex.proofs.small_filling.common_word.Given as goal

abbrev pub invariant-loop-position : goal.invariant-loop-position
invariant-loop-position l = (c : Context) (k : ℕ) → is_set l.word k ≡ (nat_lt k l.position && in_mask (slice_get l.masks k) c)
