use Rattle.std.proofs.Common.{◌≡◌, ℕ, ◌-◌, ◌<◌, ◌≤◌, true, false, length, Some, slice_get}
use Rattle.hs_base.specs.Bits.{has_word_bit}
use Rattle.hs_bits.specs.Marks.{is_marked}
use Rattle.hs_lazy.specs.declared.parts.Member.{Member}
use Rattle.hs_lazy.specs.Tables.{engine_at, member_of}
use Rattle.hs_lazy.proofs.cache.Cache.mark_members.Given as goal

abbrev pub invariant-loop-k : goal.invariant-loop-k
invariant-loop-k l = record {
  room : length l.marks ≡ length l.fn.marks;
  within : l.from ≤ length l.members;
  kept : (k : ℕ) → is_marked l.fn.marks k ≡ true → is_marked l.marks k ≡ true;
  own : (k : ℕ) → is_marked l.marks k ≡ true → is_marked l.fn.marks k ≡ false → (n : ℕ) × (engine_at l.self.dfas k ≡ Some n);
  marked : (k : ℕ) (m own : Member) → k < l.from → slice_get l.members k ≡ Some m → member_of l.self.dfas m.number ≡ Some own →
      has_word_bit l.woken k ≡ true → is_marked l.marks m.number ≡ true;
}

abbrev pub decreases-loop-k : goal.decreases-loop-k
decreases-loop-k l = length l.members - l.from
