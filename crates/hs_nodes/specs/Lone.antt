-- Nodes that one single identifier has for itself: once a pair of it is told, where they are left plays no part.
use Rattle.std.specs.Prelude.{◌≡◌, ℕ, ◌+◌, ◌<◌, Bool, true, false, List, [], ◌∷◌, ◌++◌, length, replicate}
use Rattle.std.specs.Prelude.{Option, Some, None, slice_get}
use Rattle.hs_base.specs.declared.byte_set.ByteSet.{ByteSet}
use Rattle.hs_base.specs.declared.context.Mask.{Mask}
use Rattle.hs_base.specs.declared.context.Prev.{Prev}
use Rattle.hs_base.specs.Bits.{AreZero, has_word_bit}
use Rattle.hs_base.specs.ByteSets.{has}
use Rattle.hs_base.specs.Lists.{Each}
use Rattle.hs_base.specs.Trees.{Tree}
use Rattle.hs_block.specs.Blocks.{IsFieldOf}
use Rattle.hs_bits.specs.Marks.{is_marked}
use Rattle.hs_engine.specs.Engines.{Meaning}
use Rattle.hs_nodes.specs.declared.graph.Graph.{Graph}
use Rattle.hs_nodes.specs.declared.lone.LoneNodes.{LoneNodes}
use Rattle.hs_nodes.specs.declared.table.Node.{Node}
use Rattle.hs_nodes.specs.declared.table.NodeKind.TheVariants.{Engine}
use Rattle.hs_nodes.specs.declared.table.NodeTable.{NodeTable}
use Rattle.hs_reports.specs.declared.identifier.Identifier.{Identifier}

-- Behind a byte outside of the set nothing of the engine is live: a region in which all bytes are 0 is the field of
-- each stream that ends with it, wherever the expression was entered.
abbrev pub IsClearBehindOthers : Meaning → ByteSet → Type 0
IsClearBehindOthers m living =
    (region : List ℕ) (tree : Tree) (u : List ℕ) (b : ℕ) (entered : List Bool) →
    m.is_for tree →
    length entered ≡ length u + 1 →
    b < 256 →
    has living b ≡ false →
    length region ≡ m.width →
    AreZero region →
    m.field region tree (u ++ b ∷ []) entered

-- The engine takes a chunk that it is entered in before each byte: for each history of the old region the new one is
-- the field behind the chunk.
abbrev pub CatchesUp : Meaning → (old new : List ℕ) → Prev → (at : ℕ) (bytes : List ℕ) → Type 0
CatchesUp m old new prev at bytes =
    (tree : Tree) (u : List ℕ) (entered : List Bool) →
    IsFieldOf m old prev at tree u entered →
    m.field new tree (u ++ bytes) (entered ++ replicate (length bytes) true)

-- a pair of the identifier of that number is told, if there is one
abbrev pub is_told_of : (told : List ℕ) → Option (Option ℕ) → Bool
is_told_of told None = false
is_told_of told (Some None) = false
is_told_of told (Some (Some identifier)) = has_word_bit told identifier

-- the node of that number is a lone one, and a pair of its identifier is told
abbrev pub is_spent_node : LoneNodes → (told : List ℕ) → ℕ → Bool
is_spent_node lone told k = is_told_of told (slice_get lone.identifiers.items k)

-- no node has that one for its parent
abbrev pub IsChildless : List Node → ℕ → Type 0
IsChildless nodes k = (j : ℕ) (child : Node) → slice_get nodes j ≡ Some child → child.parent ≡ Some k → ⊥

-- The node of that number is one of an engine, without a parent and without children.
pub record IsLoneNode {E : Type 0} (table : NodeTable E) (k : ℕ) : Type 0 where
  pub node : Node
  pub there : slice_get table.nodes.items k ≡ Some node
  pub number : ℕ
  pub null : Option Mask
  pub kind_is : node.kind ≡ Engine number null
  pub no_parent : node.parent ≡ None
  pub childless : IsChildless table.nodes.items k

-- Matches of that identifier end at the node and of no other one, and it is single.
pub record IsOfOneIdentifier {E : Type 0} (graph : Graph E) (k identifier : ℕ) : Type 0 where
  pub named : Each (λ t. t.node ≡ k → t.identifier ≡ identifier) graph.terminals.items
  pub single : (x : Identifier) → slice_get graph.identifiers.items identifier ≡ Some x → x.single ≡ true

-- The sets have the bytes behind which something of each engine may be live.
abbrev pub AreLiving : {E : Type 0} (meaning : E → Meaning) (engines : List E) (sets : List ByteSet) → Type 0
AreLiving {E = E} meaning engines sets =
    (number : ℕ) (e : E) (set : ByteSet) →
    slice_get engines number ≡ Some e →
    slice_get sets number ≡ Some set →
    IsClearBehindOthers (meaning e) set

-- Lone nodes of a table, as far as it is run.
pub record AreLoneIn {E : Type 0} (meaning : E → Meaning) (table : NodeTable E) (lone : LoneNodes) : Type 0 where
  pub each : (k p : ℕ) → slice_get lone.identifiers.items k ≡ Some (Some p) → IsLoneNode table k
  pub living : AreLiving meaning table.engines.items lone.living.items

-- Lone nodes of a graph.
pub record AreLoneNodes {E : Type 0} (meaning : E → Meaning) (graph : Graph E) (lone : LoneNodes) : Type 0 where
  pub in_table : AreLoneIn meaning graph.table lone
  pub owned : (k p : ℕ) → slice_get lone.identifiers.items k ≡ Some (Some p) → IsOfOneIdentifier graph k p

-- The nodes that another one has for its parent are marked.
abbrev pub AreParents : List Node → (marks : List ℕ) → Type 0
AreParents nodes marks =
    (j p : ℕ) (child : Node) →
    slice_get nodes j ≡ Some child →
    child.parent ≡ Some p →
    is_marked marks p ≡ true
