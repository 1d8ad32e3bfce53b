-- Which forest is that of a list of chains of keys.
--
-- A node stands for a beginning of a chain, its path. Its parent is the node of the path without the last key.
use Rattle.std.specs.Prelude.{◌≡◌, ℕ, ◌<◌, List, [], ◌∷◌, ◌++◌, length, map, flat_map, Option, Some, None, slice_get}
use Rattle.hs_base.specs.Lists.{OneOf}
use Rattle.hs_forest.specs.Groups.{AreGroups}

-- What a forest has: of each node the parent, the key and the children; for each key of each chain, in order, its node;
-- and for each chain its last node, if it has a key.
pub record ForestTables : Type 0 where
  pub parents : List (Option ℕ)
  pub keys : List ℕ
  pub child_starts : List ℕ
  pub children : List ℕ
  pub nodes : List ℕ
  pub last_nodes : List (Option ℕ)

abbrev pub forest_tables : List (Option ℕ) → List ℕ → List ℕ → List ℕ → List ℕ → List (Option ℕ) → ForestTables
forest_tables parents keys child_starts children nodes last_nodes = record {
  parents = parents;
  keys = keys;
  child_starts = child_starts;
  children = children;
  nodes = nodes;
  last_nodes = last_nodes;
}

-- each parent comes before its children
abbrev pub AreEarlier : List (Option ℕ) → Type 0
AreEarlier parents = (k p : ℕ) → slice_get parents k ≡ Some (Some p) → p < k

-- The children of each node stand in one list, each node's from where it says to where the next one says.
abbrev pub AreChildren : (parents : List (Option ℕ)) → (starts children : List ℕ) → Type 0
AreChildren parents starts children = AreGroups parents (length parents) starts children

-- The tables fit one another.
pub record IsForestWhole (t : ForestTables) : Type 0 where
  pub keys : length t.keys ≡ length t.parents
  pub earlier : AreEarlier t.parents
  pub children : AreChildren t.parents t.child_starts t.children
  pub nodes : (i k : ℕ) → slice_get t.nodes i ≡ Some k → k < length t.parents
  pub last_nodes : (c k : ℕ) → slice_get t.last_nodes c ≡ Some (Some k) → k < length t.parents

-- the path of a node of these; that of none is empty
abbrev pub path_to : (paths : List (List ℕ)) → Option ℕ → Option (List ℕ)
path_to paths None = Some []
path_to paths (Some k) = slice_get paths k

-- The path of a node is that of its parent, which comes before it, with its own key.
pub record HasPath (paths : List (List ℕ)) (k : ℕ) (parent : Option ℕ) (key : ℕ) : Type 0 where
  pub front : List ℕ
  pub before : path_to paths parent ≡ Some front
  pub path : slice_get paths k ≡ Some (front ++ key ∷ [])

-- These are the paths of the nodes with these parents and keys.
pub record ArePaths (parents : List (Option ℕ)) (keys : List ℕ) (paths : List (List ℕ)) : Type 0 where
  pub count : length paths ≡ length parents
  pub keys_count : length keys ≡ length parents
  pub earlier : AreEarlier parents
  pub each : (k : ℕ) (parent : Option ℕ) (key : ℕ) → slice_get parents k ≡ Some parent → slice_get keys k ≡ Some key →
      HasPath paths k parent key

-- no two are equal
abbrev pub AreDistinct : {A : Type 0} → List A → Type 0
AreDistinct {A} xs = (j k : ℕ) (x : A) → slice_get xs j ≡ Some x → slice_get xs k ≡ Some x → j ≡ k

-- the chain begins with the path
abbrev pub BeginsWith : List ℕ → List ℕ → Type 0
BeginsWith path chain = (rest : List ℕ) × (chain ≡ path ++ rest)

-- the beginnings of a chain that are longer than that one, which keys follow
abbrev pub beginnings_behind : List ℕ → List ℕ → List (List ℕ)
beginnings_behind front [] = []
beginnings_behind front (key ∷ keys) = (front ++ key ∷ []) ∷ beginnings_behind (front ++ key ∷ []) keys

-- the beginnings of a chain with one key, with two, and so on
abbrev pub beginnings : List ℕ → List (List ℕ)
beginnings chain = beginnings_behind [] chain

-- The node of that number stands in the list, and before it those with lesser numbers alone.
pub record HasFirst (nodes : List ℕ) (k : ℕ) : Type 0 where
  pub place : ℕ
  pub there : slice_get nodes place ≡ Some k
  pub before : (j n : ℕ) → j < place → slice_get nodes j ≡ Some n → n < k

-- so many nodes are numbered in the order in which the list first has them
abbrev pub AreInOrder : (nodes : List ℕ) → (count : ℕ) → Type 0
AreInOrder nodes count = (k : ℕ) → k < count → HasFirst nodes k

-- The forest is that of the chains: no two nodes have one path, each path begins a chain, the node of each key of each
-- chain has for its path the beginning up to that key, and the last node of each chain the chain. Nodes are numbered in
-- the order of their first keys.
pub record IsForestOf (t : ForestTables) (chains : List (List ℕ)) : Type 0 where
  pub paths : List (List ℕ)
  pub are_paths : ArePaths t.parents t.keys paths
  pub apart : AreDistinct paths
  pub needed : (k : ℕ) (path : List ℕ) → slice_get paths k ≡ Some path → OneOf (BeginsWith path) chains
  pub nodes : map (λ k. slice_get paths k) t.nodes ≡ map Some (flat_map beginnings chains)
  pub order : AreInOrder t.nodes (length t.parents)
  pub last_nodes : map (path_to paths) t.last_nodes ≡ map Some chains
  pub children : AreChildren t.parents t.child_starts t.children
