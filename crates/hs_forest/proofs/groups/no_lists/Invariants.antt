use Rattle.std.proofs.Common.{◌≡◌, ℕ, List, [], map, slice_get, Some, vec_len}
use Rattle.hs_forest.specs.Views.{numbers}
use Rattle.hs_forest.proofs.groups.no_lists.Given as goal

abbrev pub invariant-loop-owner : goal.invariant-loop-owner
invariant-loop-owner l = record {
  count : vec_len l.lists ≡ l._owner;
  empty : (k : ℕ) (list : List ℕ) → slice_get (map numbers l.lists.items) k ≡ Some list → list ≡ [];
}
