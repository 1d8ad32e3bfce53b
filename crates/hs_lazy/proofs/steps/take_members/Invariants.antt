use Rattle.std.proofs.Common.{◌≡◌, ◌-◌, ℕ, ◌≤◌, false, length, Some, slice_get}
use Rattle.hs_base.specs.Bits.{has_word_bit}
use Rattle.hs_lazy.specs.declared.parts.Member.{Member}
use Rattle.hs_lazy.specs.Parts.{part}
use Rattle.hs_lazy.specs.Runs.{TakesEntered}
use Rattle.hs_lazy.proofs.steps.take_members.Given as goal

abbrev pub invariant-loop-k : goal.invariant-loop-k
invariant-loop-k g l = record {
  len : length l.image ≡ 512;
  befores : length l.ends.before ≡ 4;
  behinds : length l.ends.behind ≡ 4;
  within : l.from ≤ length l.members;
  done : (j : ℕ) (m : Member) (e : _) → slice_get l.members j ≡ Some m → slice_get l.engines m.engine ≡ Some e → m.is_dropped ≡ false → (l.from ≤ j → has_word_bit l.asked j ≡ false) →
      TakesEntered (g.E.Engine.meaning e) (part l.old.image m) (part l.image m) l.old.prev l.byte
      (record { before = has_word_bit l.ends.before j; behind = has_word_bit l.ends.behind j });
}

abbrev pub decreases-loop-k : goal.decreases-loop-k
decreases-loop-k g l = length l.members - l.from
