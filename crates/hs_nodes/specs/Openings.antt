-- Chains that begin where the stream does: which nodes are theirs, and which literals other nodes name.
use Rattle.std.specs.Prelude.{◌≡◌, ℕ, ◌-◌, ◌<◌, ◌≤◌, Bool, true, false, ◌&&◌, List, length, take, Option, Some, None}
use Rattle.std.specs.Prelude.{slice_get}
use Rattle.hs_base.specs.declared.context.Next.{Next}
use Rattle.hs_base.specs.Bits.{has_bit}
use Rattle.hs_base.specs.Leaving.{IsEmptyAt}
use Rattle.hs_base.specs.Trees.{Tree}
use Rattle.hs_bits.specs.Marks.{is_marked, mark_room}
use Rattle.hs_engine.specs.Engines.{Meaning}
use Rattle.hs_nodes.specs.Contexts.{IsNull}
use Rattle.hs_nodes.specs.LookBacks.{EndsNowhere}
use Rattle.hs_nodes.specs.Nodes.{IsAtRest, IsKindSound, window_size}
use Rattle.hs_nodes.specs.Walks.{node_part}
use Rattle.hs_nodes.specs.declared.openings.Openings.{Openings}
use Rattle.hs_nodes.specs.declared.table.LookBackPair.{LookBackPair}
use Rattle.hs_nodes.specs.declared.table.Node.{Node}
use Rattle.hs_nodes.specs.declared.table.NodeKind.{NodeKind}
use Rattle.hs_nodes.specs.declared.table.NodeKind.TheVariants.{Engine, Literal, FirstLiteral, LookBack}
use Rattle.hs_nodes.specs.declared.table.NodeTable.{NodeTable}

-- The expression of the pair has no match that ends behind more bytes than it has at most, nor an empty span behind a
-- byte: each begins where the stream does.
pub record BeginsAtStart (pair : LookBackPair) : Type 0 where
  pub matches : (offset byte : ℕ) → byte < 256 → window_size < offset → EndsNowhere pair.behind pair.last offset byte
  pub empty : (tree : Tree) (u : List ℕ) (next : Next) → IsNull pair.null tree → 1 ≤ length u →
      IsEmptyAt tree u next → ⊥

-- matches of a node of that kind, which has no parent, begin where the stream does
abbrev pub IsOpeningKind : NodeKind → Type 0
IsOpeningKind (Engine number null) = ⊥
IsOpeningKind (Literal number len) = ⊥
IsOpeningKind (FirstLiteral number len) = ⊥
IsOpeningKind (LookBack pair) = BeginsAtStart pair

-- the literal that a node of that kind names, if it names one
abbrev pub named_literal : NodeKind → Option ℕ
named_literal (Engine number null) = None
named_literal (Literal number len) = Some number
named_literal (FirstLiteral number len) = Some number
named_literal (LookBack pair) = Some pair.literal

-- The openings are among the nodes, and the literals that others name among so many: the first node of each chain that
-- they have begins where the stream does.
pub record AreOpenings (nodes : List Node) (literals : ℕ) (openings : Openings) : Type 0 where
  pub room : length nodes ≤ mark_room openings.nodes
  pub few : openings.others ≤ literals
  pub first : (k : ℕ) (node : Node) → slice_get nodes k ≡ Some node → is_marked openings.nodes k ≡ true →
      node.parent ≡ None → IsOpeningKind node.kind
  pub behind : (k p : ℕ) (node : Node) → slice_get nodes k ≡ Some node → is_marked openings.nodes k ≡ true →
      node.parent ≡ Some p → is_marked openings.nodes p ≡ true
  pub named : (k number : ℕ) (node : Node) → slice_get nodes k ≡ Some node → is_marked openings.nodes k ≡ false →
      named_literal node.kind ≡ Some number → number < openings.others

-- More bytes have come than a first node and its literal have, and no opening is marked.
pub record AreOver (openings : Openings) (at : ℕ) (marks : List ℕ) : Type 0 where
  pub far : 48 < at
  pub unmarked : (k : ℕ) → is_marked openings.nodes k ≡ true → is_marked marks k ≡ false

module _ {E : Type 0} (meaning : E → Meaning) (engines : List E) where
  -- A node of that kind stays as it is in a chunk at that offset, and is left nowhere in it, where its parent is left
  -- nowhere: nothing is live in it, and where it has no parent its matches begin where the stream does.
  abbrev pub MayBePassed : NodeKind → (parent : Option ℕ) → (part : List ℕ) → (at : ℕ) → Type 0
  MayBePassed (Engine number null) parent part at =
      (parent ≡ None → ⊥) × ((e : E) → slice_get engines number ≡ Some e → IsAtRest (meaning e) part)
  MayBePassed (Literal number len) parent part at = (parent ≡ None → ⊥) × ((k : ℕ) → has_bit part k ≡ false)
  MayBePassed (FirstLiteral number len) parent part at = parent ≡ None → ⊥
  MayBePassed (LookBack pair) parent part at = parent ≡ None → BeginsAtStart pair × (48 < at)

module _ {E : Type 0} (meaning : E → Meaning) (table : NodeTable E) where
  -- Nodes that are passed over may be, and a parent of one is one of them.
  pub record MayNodesBePassed (passed : ℕ → Bool) (region : List ℕ) (at : ℕ) : Type 0 where
    pub each : (k : ℕ) (node : Node) → slice_get table.nodes.items k ≡ Some node → passed k ≡ true →
        MayBePassed meaning table.engines.items node.kind node.parent (node_part region node) at
    pub behind : (k p : ℕ) (node : Node) → slice_get table.nodes.items k ≡ Some node → passed k ≡ true →
        node.parent ≡ Some p → passed p ≡ true

  -- What the other nodes name is there, for so many literals.
  abbrev pub AreOthersSound : (passed : ℕ → Bool) (literals : ℕ) → Type 0
  AreOthersSound passed literals =
      (k : ℕ) (node : Node) →
      slice_get table.nodes.items k ≡ Some node →
      passed k ≡ false →
      IsKindSound meaning table.engines.items literals node.kind (node.end - node.start)

-- the literals that other nodes name, of those of all nodes
abbrev pub lasting_literals : {A : Type 0} → Openings → List A → List A
lasting_literals openings literals = take openings.others literals

-- the node of that number is passed over, if the openings are
abbrev pub is_passed : (over : Bool) → Openings → ℕ → Bool
is_passed over openings k = over && is_marked openings.nodes k
