use Rattle.std.proofs.Common.{◌≡◌, ℕ, List, [], map, slice_get, Some, vec_len}
use Rattle.hs_rose.specs.LiteralRoles.{role_numbers}
use Rattle.hs_rose.proofs.literals.no_roles.Given as goal

abbrev pub invariant-loop-number : goal.invariant-loop-number
invariant-loop-number l = record {
  count : vec_len l.lists ≡ l._number;
  empty : (k : ℕ) (list : List ℕ) → slice_get (map role_numbers l.lists.items) k ≡ Some list → list ≡ [];
}
