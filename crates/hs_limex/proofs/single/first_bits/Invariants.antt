use Rattle.std.proofs.Common.{◌≡◌, ℕ, nat_lt}
use Rattle.hs_limex.specs.SingleWords.{is_set}
use Rattle.hs_limex.proofs.single.first_bits.Given as goal

abbrev pub invariant-loop-bit : goal.invariant-loop-bit
invariant-loop-bit l = (k : ℕ) → is_set l.word k ≡ nat_lt k l.bit
