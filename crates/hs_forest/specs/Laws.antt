-- What holds of forests.
use Rattle.std.specs.Prelude.{◌≡◌, ◌↔◌, ℕ, List, flat_map, Some, slice_get}
use Rattle.hs_forest.specs.Forests.{ForestTables, IsForestOf, beginnings}

-- the node of a key, among all keys of all chains, and the beginning of its chain up to it
pub record IsNodeOf (t : ForestTables) (chains : List (List ℕ)) (i node : ℕ) (beginning : List ℕ) : Type 0 where
  pub node_is : slice_get t.nodes i ≡ Some node
  pub beginning_is : slice_get (flat_map beginnings chains) i ≡ Some beginning

-- Keys of chains have one node just where their chains are equal up to them.
abbrev pub EqualBeginningsAreOneNode : Type 0
EqualBeginningsAreOneNode =
    (t : ForestTables) (chains : List (List ℕ)) (i j a b : ℕ) (xs ys : List ℕ) →
    IsForestOf t chains →
    IsNodeOf t chains i a xs →
    IsNodeOf t chains j b ys →
    (a ≡ b) ↔ (xs ≡ ys)
