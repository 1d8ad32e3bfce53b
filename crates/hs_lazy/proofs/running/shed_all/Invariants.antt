use Rattle.std.proofs.Common.{◌≡◌, ℕ, length, Some, slice_get}
use Rattle.hs_lazy.specs.declared.dfa.LazyDfa.{LazyDfa}
use Rattle.hs_lazy.specs.Members.{IsShed}
use Rattle.hs_lazy.proofs.running.shed_all.Given as goal

abbrev pub invariant-loop-at : goal.invariant-loop-at
invariant-loop-at l = record {
  len : length l.list ≡ length l.fn.list;
  shed : (i : ℕ) (dfa : LazyDfa) → slice_get l.list i ≡ Some dfa → (old : LazyDfa) × (slice_get l.fn.list i ≡ Some old) × IsShed old dfa;
}
