use Rattle.std.proofs.Common.{ℕ, ◌≤◌, ◌<◌, slice_index}
use Rattle.hs_lazy.proofs.dfa.are_silent.Given as goal

abbrev pub invariant-loop-place : goal.invariant-loop-place
invariant-loop-place l = record {
  most : (i : ℕ) → l.from ≤ i → i < l.place → slice_index l.trace i ≤ l.all;
}
