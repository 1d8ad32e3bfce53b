-- The children of nodes, from those of a forest.
use Rattle.std.proofs.Common.{◌≡◌, ℕ, suc, ◌<◌, ◌≤◌, List, length, Option, Some, slice_get, sym, ap, ◌∙◌, arith}
use Rattle.std.specs.Prelude.{slice_index}
use Rattle.std.proofs.lemmas.Option.{get_or_from_slice_get, slice_get_within}
use Rattle.hs_base.specs.Lists.{Each}
use Rattle.hs_forest.proofs.MemberLemmas.{grouped, listed}
use Rattle.hs_forest.specs.Groups.{AreGroups}
use Rattle.hs_nodes.specs.declared.table.Node.{Node}
use Rattle.hs_compile.specs.GraphLists.{AreChildren}
use Rattle.hs_compile.proofs.GraphListLemmas.{each-of_get}

-- each start of a group is within the list
pub starts-within : (owners : List (Option ℕ)) (count : ℕ) (starts list : List ℕ) → AreGroups owners count starts list → Each (λ start. start ≤ length list) starts
starts-within owners count starts list are = each-of_get (λ start. start ≤ length list) starts (λ k start at.
    let read : slice_index starts k ≡ start = get_or_from_slice_get starts k start 0 at in
    let inside = slice_get_within starts k start at in
    omega (arith, read, are.rising k count (omega (arith, inside, are.count_is)) (omega arith), are.last))

pub forest-children : (nodes : List Node) (parents : List (Option ℕ)) (starts children : List ℕ) → length nodes ≡ length parents → ((k : ℕ) (node : Node) → slice_get nodes k ≡ Some node → slice_get parents k ≡ Some node.parent) →
    ((k p : ℕ) → slice_get parents k ≡ Some (Some p) → p < k) → AreGroups parents (length parents) starts children → AreChildren nodes starts children
forest-children nodes parents starts children count parent earlier are = record {
  count = are.count_is ∙ ap suc (sym count);
  within = starts-within parents (length parents) starts children are;
  known = each-of_get (λ child. child < length nodes) children (λ i child at.
      let read : slice_index children i ≡ child = get_or_from_slice_get children i child 0 at in
      let own = grouped parents (length parents) starts children are i (slice_get_within children i child at) in
      omega (arith, read, slice_get_within parents (slice_index children i) (Some own.k) own.owner, count));
  among = λ k p node at some.
      let owner : slice_get parents k ≡ Some (Some p) = parent k node at ∙ ap Some some in
      let inside = slice_get_within nodes k node at in
      let own = listed parents (length parents) starts children are k p (omega (arith, earlier k p owner, inside, count)) owner in
      record { place = own.place; low = own.low; high = own.high; is = own.is };
}
