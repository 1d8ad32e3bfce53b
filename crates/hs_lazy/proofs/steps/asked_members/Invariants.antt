use Rattle.std.proofs.Common.{◌≡◌, ℕ, ◌<◌, ◌||◌, false, length, Some, slice_get}
use Rattle.hs_base.specs.Bits.{has_word_bit}
use Rattle.hs_base.specs.ByteSets.{has}
use Rattle.hs_lazy.specs.declared.parts.Member.{Member}
use Rattle.hs_lazy.proofs.steps.asked_members.Given as goal

abbrev pub invariant-loop-k : goal.invariant-loop-k
invariant-loop-k l = record {
  len : length l.asked ≡ 4;
  done : (j : ℕ) (m : Member) → j < l.k → slice_get l.members j ≡ Some m → m.is_dropped ≡ false → has_word_bit l.asked j ≡ (has_word_bit l.live j || has m.wakers l.byte);
}
