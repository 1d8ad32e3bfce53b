use Rattle.std.proofs.Common.{◌≡◌, ℕ, ◌<◌, ◌≤◌, true, length}
use Rattle.std.specs.Prelude.{EachIndex, slice_index}
use Rattle.hs_bits.specs.Marks.{is_marked}
use Rattle.hs_nodes.proofs.walking.mark_all.Given as goal

abbrev pub invariant-loop-i : goal.invariant-loop-i
invariant-loop-i l = record {
  room : length l.marks ≡ length l.initial.marks;
  all : (i : ℕ) → l.from ≤ i → i < l.i → is_marked l.marks (slice_index l.numbers i) ≡ true;
  kept : (k : ℕ) → is_marked l.initial.marks k ≡ true → is_marked l.marks k ≡ true;
  no_other : (count k : ℕ) → EachIndex l.numbers (λ i. slice_index l.numbers i < count) → is_marked l.marks k ≡ true → count ≤ k →
      is_marked l.initial.marks k ≡ true;
}
