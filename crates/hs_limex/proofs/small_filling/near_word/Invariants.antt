use Rattle.std.proofs.Common.{◌≡◌, ℕ, ◌+◌, ◌&&◌, nat_lt}
use Rattle.hs_engine.specs.Rows.{in_row}
use Rattle.hs_limex.specs.SingleWords.{is_set}
use Rattle.hs_limex.specs.SmallWords.{one_context}
use Rattle.hs_limex.proofs.small_filling.near_word.Given as goal

abbrev pub invariant-loop-position : goal.invariant-loop-position
invariant-loop-position l = (k : ℕ) → is_set l.word k ≡ (nat_lt k l.position && in_row l.follows k (k + l.distance) one_context)
