-- Nodes in which nothing is live between two chunks.
use Rattle.std.specs.Prelude.{◌≡◌, ℕ, ◌<◌, ◌≤◌, true, false, List, length, Option, Some, None, slice_get}
use Rattle.hs_base.specs.declared.context.Prev.{Prev}
use Rattle.hs_base.specs.Bits.{AreZero}
use Rattle.hs_base.specs.Lists.{Each}
use Rattle.hs_engine.specs.Engines.{Meaning, IsStart}
use Rattle.hs_nodes.specs.Hits.{is_hit_at}
use Rattle.hs_nodes.specs.Left.{nowhere}
use Rattle.hs_bits.specs.Marks.{is_marked}
use Rattle.hs_nodes.specs.Nodes.{IsAtRest, PassesOver}
use Rattle.hs_nodes.specs.Walks.{AreMoreMarks, ChangesMarked, MayNodesRest, node_ends, node_part}
use Rattle.hs_nodes.specs.declared.ends.ChunkEnds.{ChunkEnds}
use Rattle.hs_nodes.specs.declared.hits.ChunkHits.{ChunkHits}
use Rattle.hs_nodes.specs.declared.table.Node.{Node}
use Rattle.hs_nodes.specs.declared.table.NodeKind.{NodeKind}
use Rattle.hs_nodes.specs.declared.table.NodeKind.TheVariants.{Engine, Literal, FirstLiteral, LookBack}
use Rattle.hs_nodes.specs.declared.table.NodeTable.{NodeTable}

-- nothing is live in what is kept of a node of that kind
abbrev pub IsUnset : NodeKind → (part : List ℕ) → Type 0
IsUnset (Engine number null) part = AreZero part
IsUnset (Literal number len) part = AreZero part
IsUnset (FirstLiteral number len) part = Unit {0}
IsUnset (LookBack pair) part = Unit {0}

-- Nothing is live in an engine's region, in which all bytes are 0, and it may stand at any offset, behind the empty
-- stream too.
pub record IsIdleEngine (m : Meaning) (part : List ℕ) : Type 0 where
  pub rests : IsAtRest m part
  pub starts : IsStart m part
  pub sized : length part ≡ m.width
  pub zero : AreZero part

-- Nothing is live in a region of the engines in which all bytes are 0, and it may stand at any offset.
abbrev pub AreEnginesIdle : {E : Type 0} (meaning : E → Meaning) (engines : List E) → Type 0
AreEnginesIdle {E = E} meaning engines =
    (number : ℕ) (e : E) (part : List ℕ) →
    slice_get engines number ≡ Some e →
    (meaning e).always ≡ false →
    length part ≡ (meaning e).width →
    AreZero part →
    IsIdleEngine (meaning e) part

-- A chunk behind `prev` wakes nothing in an engine, from each region on in which nothing is live.
abbrev pub SleepsThrough : Meaning → Prev → (bytes : List ℕ) → Type 0
SleepsThrough m prev bytes = (region : List ℕ) → IsIdleEngine m region → PassesOver m region prev bytes

module _ {E : Type 0} (meaning : E → Meaning) (engines : List E) where
  -- A node of that kind stays as it is in each chunk that neither enters nor wakes it.
  abbrev pub IsResting : NodeKind → (part : List ℕ) → Type 0
  IsResting (Engine number null) part =
      (e : E) → slice_get engines number ≡ Some e → IsIdleEngine (meaning e) part
  IsResting (Literal number len) part = AreZero part
  IsResting (FirstLiteral number len) part = Unit {0}
  IsResting (LookBack pair) part = Unit {0}

  -- A chunk doesn't wake a node of that kind: if it has no parent, it has no empty span and its bytes wake nothing; and
  -- a first literal, or one behind an expression that looks back, ends nowhere.
  abbrev pub IsUnwokenIn : NodeKind → (parent : Option ℕ) → (hits : List ChunkHits) → Prev → (bytes : List ℕ) → Type 0
  IsUnwokenIn (Engine number null) parent hits prev bytes =
      parent ≡ None →
      (null ≡ None) × ((e : E) → slice_get engines number ≡ Some e → SleepsThrough (meaning e) prev bytes)
  IsUnwokenIn (Literal number len) parent hits prev bytes = parent ≡ None → ⊥
  IsUnwokenIn (FirstLiteral number len) parent hits prev bytes =
      (own : ChunkHits) → slice_get hits number ≡ Some own → (i : ℕ) → i ≤ length bytes → is_hit_at own i ≡ false
  IsUnwokenIn (LookBack pair) parent hits prev bytes =
      (own : ChunkHits) →
      slice_get hits pair.literal ≡ Some own →
      (i : ℕ) →
      i ≤ length bytes →
      is_hit_at own i ≡ false

module _ {E : Type 0} (meaning : E → Meaning) (table : NodeTable E) where
  -- nothing is live in the nodes that aren't marked
  abbrev pub AreNodesResting : (marks region : List ℕ) → Type 0
  AreNodesResting marks region =
      (k : ℕ) (node : Node) →
      slice_get table.nodes.items k ≡ Some node →
      is_marked marks k ≡ false →
      IsResting meaning table.engines.items node.kind (node_part region node)

  -- a chunk doesn't wake the nodes that aren't marked
  abbrev pub AreNodesUnwoken : (marks : List ℕ) (hits : List ChunkHits) → Prev → (bytes : List ℕ) → Type 0
  AreNodesUnwoken marks hits prev bytes =
      (k : ℕ) (node : Node) →
      slice_get table.nodes.items k ≡ Some node →
      is_marked marks k ≡ false →
      IsUnwokenIn meaning table.engines.items node.kind node.parent hits prev bytes

  -- Of the nodes that were marked those stay so in which something is live, and none is left anywhere.
  pub record IsSettled (region old new : List ℕ) (ends : List ChunkEnds) : Type 0 where
    pub room : length new ≡ length old
    pub fewer : (k : ℕ) → is_marked new k ≡ true → is_marked old k ≡ true
    pub taken : (k : ℕ) (node : Node) → slice_get table.nodes.items k ≡ Some node →
        IsUnset node.kind (node_part region node) → is_marked new k ≡ false
    pub kept : (k : ℕ) (node : Node) → slice_get table.nodes.items k ≡ Some node →
        (IsUnset node.kind (node_part region node) → ⊥) → is_marked new k ≡ is_marked old k
    pub resting : AreNodesResting new region
    pub clear : (k : ℕ) → node_ends ends k ≡ nowhere

  -- LAW: nodes in which nothing is live, and which a chunk doesn't wake, may be passed over in it.
  abbrev pub RestingNodesMayRest : Type 0
  RestingNodesMayRest =
      (marks : List ℕ) (hits : List ChunkHits) (region bytes : List ℕ) (prev : Prev) →
      Each (λ b. b < 256) bytes →
      AreNodesResting marks region →
      AreNodesUnwoken marks hits prev bytes →
      MayNodesRest meaning table marks hits region prev bytes

  -- LAW: a walk leaves the nodes that aren't marked as they were.
  abbrev pub RestingNodesStay : Type 0
  RestingNodesStay =
      (old new region region' : List ℕ) (ends : List ChunkEnds) →
      AreMoreMarks (length table.nodes.items) old new →
      ChangesMarked meaning table new region region' ends →
      AreNodesResting old region →
      AreNodesResting new region'
