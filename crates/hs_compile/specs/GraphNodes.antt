-- The nodes of roles: the node of a role is that of the keys of its chain up to it.
use Rattle.std.specs.Prelude.{◌≡◌, ◌+◌, ◌<◌, ◌≤◌, ℕ, suc, true, false, List, [], ◌∷◌, ◌++◌, length, Option, Some, None}
use Rattle.std.specs.Prelude.{map, slice_get, slice_index}
use Rattle.hs_layout.specs.Layouts.{Laid}
use Rattle.hs_nodes.specs.declared.graph.FieldCopy.{FieldCopy}
use Rattle.hs_nodes.specs.declared.table.Node.{Node}
use Rattle.hs_nodes.specs.declared.table.NodeKind.{NodeKind}
use Rattle.hs_nodes.specs.Graphs.{keeps_field}
use Rattle.hs_rose.specs.declared.info.ChainInfo.{ChainInfo}
use Rattle.hs_rose.specs.declared.role.Role.{Role}
use Rattle.hs_rose.specs.Programs.{Tables}
use Rattle.hs_compile.specs.declared.node_lists.NodeLists.{NodeLists}
use Rattle.hs_compile.specs.declared.step.Step.{Step}
use Rattle.hs_compile.specs.GraphKinds.{IsKindOf, IsPairOf}
use Rattle.hs_compile.specs.GraphSteps.{AreKeysTo, IsKeyOf}
use Rattle.hs_compile.specs.GraphTables.{LooksBack}

-- The node is that of the role of number i: its path are the keys of the chain up to that role.
pub record IsNodeOfRole (t : Tables) (paths : List (List ℕ)) (k i : ℕ) : Type 0 where
  pub number : ℕ
  pub chain : ChainInfo
  pub chain_there : slice_get t.chains number ≡ Some chain
  pub low : chain.first ≤ i
  pub high : i < chain.end
  pub role : Role
  pub role_there : slice_get t.roles i ≡ Some role
  pub alone : LooksBack role → ⊥
  pub path : List ℕ
  pub path_there : slice_get paths k ≡ Some path
  pub keys : AreKeysTo t chain.first (suc i) path

-- The node of the role of that number, in a chain whose roles begin with `first`, is of that kind and has that parent:
-- none for the first role, or for one behind a piece that looks back, and else the node of the role before it.
pub data IsLinked (t : Tables) (paths : List (List ℕ)) (first k i : ℕ) (r : Role) (parent : Option ℕ)
    (own : NodeKind) : Type 0 where
  begins : i ≡ first → parent ≡ None → IsKindOf t r own → IsLinked t paths first k i r parent own
  behind : (j : ℕ) (before : Role) → first < i → suc j ≡ i → slice_get t.roles j ≡ Some before → parent ≡ None →
      IsPairOf t before r own → IsLinked t paths first k i r parent own
  goes_on : (j p : ℕ) → first < i → suc j ≡ i → parent ≡ Some p → p < k → IsNodeOfRole t paths p j →
      IsKindOf t r own → IsLinked t paths first k i r parent own

-- The path ends with the key of the kind.
pub record EndsWithKey (path : List ℕ) (kind : NodeKind) : Type 0 where
  pub front : List ℕ
  pub key : ℕ
  pub is : path ≡ front ++ key ∷ []
  pub key_is : IsKeyOf kind key

-- The node is that of the role of number i, which is the first one of that node, and keeps its bytes in the field of
-- that.
pub record IsOwnNode (t : Tables) (l : Laid) (paths : List (List ℕ)) (k i : ℕ) (node : Node) : Type 0 where
  pub is : IsNodeOfRole t paths k i
  pub ends : EndsWithKey is.path node.kind
  pub linked : IsLinked t paths is.chain.first k i is.role node.parent node.kind
  pub start : node.start ≡ slice_index l.starts i
  pub end : node.end ≡ slice_index l.starts (i + 1)

-- the field of that number is among the copies, as one of the node's
pub record IsAmongCopies (copies : List FieldCopy) (k i : ℕ) : Type 0 where
  pub number : ℕ
  pub copy : FieldCopy
  pub there : slice_get copies number ≡ Some copy
  pub node : copy.node ≡ k
  pub field : copy.field ≡ i

-- The role of number i has a node: its own one, or one of an earlier role, of which its field is a copy if that keeps
-- something. `owned` are the first roles of the nodes.
pub data HasNodeOf (t : Tables) (paths : List (List ℕ)) (owned : List ℕ) (nodes : List Node) (copies : List FieldCopy)
    (i : ℕ) : Type 0 where
  owns : (k : ℕ) → slice_get owned k ≡ Some i → HasNodeOf t paths owned nodes copies i
  shares : (k : ℕ) (node : Node) → slice_get nodes k ≡ Some node → IsNodeOfRole t paths k i →
      (keeps_field node.kind ≡ true → IsAmongCopies copies k i) → HasNodeOf t paths owned nodes copies i

-- The copy is that of a role that has its node, but isn't the first one of it.
pub record IsCopyOf (t : Tables) (paths : List (List ℕ)) (owned : List ℕ) (copy : FieldCopy) : Type 0 where
  pub known : copy.node < length owned
  pub is : IsNodeOfRole t paths copy.node copy.field
  pub apart : (k : ℕ) → slice_get owned k ≡ Some copy.field → ⊥

-- numbers rise
abbrev pub AreRising : List ℕ → Type 0
AreRising owned = (j k a b : ℕ) → j < k → slice_get owned j ≡ Some a → slice_get owned k ≡ Some b → a < b

-- copies rise by field
abbrev pub AreRisingCopies : List FieldCopy → Type 0
AreRisingCopies copies =
    (i j : ℕ) (a b : FieldCopy) →
    i < j →
    slice_get copies i ≡ Some a →
    slice_get copies j ≡ Some b →
    a.field < b.field

-- the nodes that the copies are of
abbrev pub nodes_copied : List FieldCopy → List (Option ℕ)
nodes_copied copies = map (λ copy. Some copy.node) copies

-- which are there
abbrev pub AreCopiedNodesThere : NodeLists → Type 0
AreCopiedNodesThere lists =
    (i : ℕ) (copy : FieldCopy) →
    slice_get lists.copies.items i ≡ Some copy →
    copy.node < length lists.nodes.items

-- The nodes are those of all roles, but of those that look back, each in the order of its first role.
pub record AreNodes (t : Tables) (l : Laid) (paths : List (List ℕ)) (owned : List ℕ) (nodes : List Node)
    (copies : List FieldCopy) : Type 0 where
  pub count : length owned ≡ length nodes
  pub each : (k i : ℕ) (node : Node) → slice_get nodes k ≡ Some node → slice_get owned k ≡ Some i →
      IsOwnNode t l paths k i node
  pub rising : AreRising owned
  pub all : (i : ℕ) (r : Role) → slice_get t.roles i ≡ Some r → (LooksBack r → ⊥) →
      HasNodeOf t paths owned nodes copies i
  pub copies_are : (c : ℕ) (copy : FieldCopy) → slice_get copies c ≡ Some copy → IsCopyOf t paths owned copy
  pub copies_rising : AreRisingCopies copies

-- the node is of that step, and has that parent
pub record IsNodeOfStep (l : Laid) (step : Step) (parent : Option ℕ) (node : Node) : Type 0 where
  pub parent_is : node.parent ≡ parent
  pub kind : node.kind ≡ step.kind
  pub start : node.start ≡ slice_index l.starts step.role
  pub end : node.end ≡ slice_index l.starts (step.role + 1)

-- The step gets the node of that number: it is put behind the others, or is there, and then the step's field is a copy
-- of its field, if something is kept of it.
pub data IsStepAdded (l : Laid) (step : Step) (parent : Option ℕ) (number : ℕ) (before now : NodeLists) : Type 0 where
  added : (node : Node) → number ≡ length before.nodes.items → IsNodeOfStep l step parent node →
      now.nodes.items ≡ before.nodes.items ++ node ∷ [] → now.copies.items ≡ before.copies.items →
      IsStepAdded l step parent number before now
  copied : (copy : FieldCopy) → (number ≡ length before.nodes.items → ⊥) → copy.node ≡ number →
      copy.field ≡ step.role → now.nodes.items ≡ before.nodes.items →
      now.copies.items ≡ before.copies.items ++ copy ∷ [] → IsStepAdded l step parent number before now
  passed : (number ≡ length before.nodes.items → ⊥) → keeps_field step.kind ≡ false →
      now.nodes.items ≡ before.nodes.items → now.copies.items ≡ before.copies.items →
      IsStepAdded l step parent number before now

-- the role of number i is that of one of the first so many steps
pub record IsStepped (steps : List Step) (n i : ℕ) : Type 0 where
  pub place : ℕ
  pub step : Step
  pub there : slice_get steps place ≡ Some step
  pub before : place < n
  pub role : step.role ≡ i

-- a node is that of one of the first so many steps
pub record HasPlace (numbers : List ℕ) (n k : ℕ) : Type 0 where
  pub place : ℕ
  pub there : slice_get numbers place ≡ Some k
  pub before : place < n

-- The nodes of the first so many steps, where `numbers` are the nodes of all, and `parents` the parents of these.
pub record AreNodesTo (t : Tables) (l : Laid) (steps : List Step) (numbers : List ℕ) (parents : List (Option ℕ))
    (paths : List (List ℕ)) (n : ℕ) (lists : NodeLists) : Type 0 where
  pub owned : List ℕ
  pub count : length owned ≡ length lists.nodes.items
  pub each : (k i : ℕ) (node : Node) → slice_get lists.nodes.items k ≡ Some node → slice_get owned k ≡ Some i →
      IsOwnNode t l paths k i node
  pub parent : (k : ℕ) (node : Node) → slice_get lists.nodes.items k ≡ Some node →
      slice_get parents k ≡ Some node.parent
  pub rising : AreRising owned
  pub stepped : (k i : ℕ) → slice_get owned k ≡ Some i → IsStepped steps n i
  pub known : (x k : ℕ) → x < n → slice_get numbers x ≡ Some k → k < length owned
  pub needed : (k : ℕ) → k < length owned → HasPlace numbers n k
  pub all : (x : ℕ) (step : Step) → x < n → slice_get steps x ≡ Some step →
      HasNodeOf t paths owned lists.nodes.items lists.copies.items step.role
  pub copies_are : (c : ℕ) (copy : FieldCopy) → slice_get lists.copies.items c ≡ Some copy →
      IsCopyOf t paths owned copy
  pub copies_stepped : (c : ℕ) (copy : FieldCopy) → slice_get lists.copies.items c ≡ Some copy →
      IsStepped steps n copy.field
  pub copies_rising : AreRisingCopies lists.copies.items
