-- What is built of a forest, key by key.
use Rattle.std.specs.Prelude.{◌≡◌, ◌↔◌, ◌<◌, ℕ, List, [], ◌∷◌, ◌++◌, length, map, flat_map, take, Option, Some}
use Rattle.std.specs.Prelude.{slice_get}
use Rattle.std.specs.declared.cmp.Ordering.{Ordering}
use Rattle.std.specs.BTreeMap.{BTreeMap, get}
use Rattle.std.specs.Option.{option_cmp}
use Rattle.std.specs.Ordering.{nat_cmp, ordering_then}
use Rattle.hs_base.specs.Lists.{OneOf}
use Rattle.hs_forest.specs.Forests.{ForestTables, AreChildren, AreDistinct, AreEarlier, AreInOrder, ArePaths}
use Rattle.hs_forest.specs.Forests.{BeginsWith, beginnings, path_to}
use Rattle.hs_forest.specs.Groups.{AreOwners}
use Rattle.hs_forest.specs.declared.growing.Growing.{Growing}
use Rattle.hs_forest.specs.declared.builder.Builder.{Builder}

-- the order of pairs of a parent and a key
abbrev pub edge_cmp : Option ℕ × ℕ → Option ℕ × ℕ → Ordering
edge_cmp x y = ordering_then (option_cmp nat_cmp x.0 y.0) (nat_cmp x.1 y.1)

-- which node has that parent and that key
abbrev pub node_at : BTreeMap (Option ℕ × ℕ) ℕ → Option ℕ → ℕ → Option ℕ
node_at index parent key = get edge_cmp index (parent, key)

-- The index finds each node by its parent and its key, and nothing else.
abbrev pub IsIndex : BTreeMap (Option ℕ × ℕ) ℕ → List (Option ℕ) → List ℕ → Type 0
IsIndex index parents keys = (parent : Option ℕ) (key k : ℕ) →
    (node_at index parent key ≡ Some k) ↔ ((slice_get parents k ≡ Some parent) × (slice_get keys k ≡ Some key))

-- These are the paths of the nodes so far, of which no two are equal.
pub record IsSound (g : Growing) (paths : List (List ℕ)) : Type 0 where
  pub are_paths : ArePaths g.parents.items g.keys.items paths
  pub index : IsIndex g.index g.parents.items g.keys.items
  pub apart : AreDistinct paths

-- the path isn't among them
abbrev pub IsNewPath : List (List ℕ) → List ℕ → Type 0
IsNewPath paths path = (k : ℕ) → slice_get paths k ≡ Some path → ⊥

-- A number for the path among those that stand there: its place, or the next one where it was none of them.
pub data IsPathNumbered (before : List (List ℕ)) (path : List ℕ) (now : List (List ℕ)) (number : ℕ) : Type 0 where
  found : now ≡ before → slice_get before number ≡ Some path → IsPathNumbered before path now number
  added : IsNewPath before path →
      now ≡ before ++ path ∷ [] →
      number ≡ length before →
      IsPathNumbered before path now number

-- The path has got a node.
pub record IsGrown (now : Growing) (before : List (List ℕ)) (path : List ℕ) (node : ℕ) : Type 0 where
  pub paths : List (List ℕ)
  pub sound : IsSound now paths
  pub numbered : IsPathNumbered before path paths node

-- The chains have their nodes, and of one more chain the first so many keys; behind these stands `last`.
pub record IsBuiltTo (b : Builder) (chains : List (List ℕ)) (chain : List ℕ) (n : ℕ) (last : Option ℕ) : Type 0 where
  pub paths : List (List ℕ)
  pub sound : IsSound b.growing paths
  pub needed : (k : ℕ) (path : List ℕ) → slice_get paths k ≡ Some path → OneOf (BeginsWith path) (chains ++ chain ∷ [])
  pub nodes : map (λ k. slice_get paths k) b.nodes.items
      ≡ map Some (flat_map beginnings chains ++ beginnings (take n chain))
  pub order : AreInOrder b.nodes.items (length paths)
  pub last_nodes : map (path_to paths) b.last_nodes.items ≡ map Some chains
  pub last_is : path_to paths last ≡ Some (take n chain)

-- The chains have their nodes.
pub record IsBuilt (b : Builder) (chains : List (List ℕ)) : Type 0 where
  pub paths : List (List ℕ)
  pub sound : IsSound b.growing paths
  pub needed : (k : ℕ) (path : List ℕ) → slice_get paths k ≡ Some path → OneOf (BeginsWith path) chains
  pub nodes : map (λ k. slice_get paths k) b.nodes.items ≡ map Some (flat_map beginnings chains)
  pub order : AreInOrder b.nodes.items (length paths)
  pub last_nodes : map (path_to paths) b.last_nodes.items ≡ map Some chains

-- Each node that is named is there.
pub record AreFinished (b : Builder) : Type 0 where
  pub keys : length b.growing.keys.items ≡ length b.growing.parents.items
  pub earlier : AreEarlier b.growing.parents.items
  pub owners : AreOwners b.growing.parents.items (length b.growing.parents.items)
  pub nodes : (i k : ℕ) → slice_get b.nodes.items i ≡ Some k → k < length b.growing.parents.items
  pub last_nodes : (c k : ℕ) → slice_get b.last_nodes.items c ≡ Some (Some k) → k < length b.growing.parents.items

-- The forest has what is built, and the children.
pub record IsFinished (b : Builder) (t : ForestTables) : Type 0 where
  pub parents : t.parents ≡ b.growing.parents.items
  pub keys : t.keys ≡ b.growing.keys.items
  pub nodes : t.nodes ≡ b.nodes.items
  pub last_nodes : t.last_nodes ≡ b.last_nodes.items
  pub children : AreChildren t.parents t.child_starts t.children
