-- A walk over the nodes of a table, over a chunk.
use Rattle.std.specs.Prelude.{◌≡◌, ◌⊎◌, ℕ, suc, ◌+◌, ◌-◌, ◌<◌, ◌≤◌, Bool, true, false, List, [], ◌∷◌, ◌++◌, length}
use Rattle.std.specs.Prelude.{Option, Some, None, slice_get, slice_index, slice_index_or, slice_range}
use Rattle.hs_base.specs.declared.context.Prev.{Prev}
use Rattle.hs_base.specs.Chains.{Piece, IsFitChain}
use Rattle.hs_base.specs.Lists.{Each}
use Rattle.hs_base.specs.Literals.{LiteralByte}
use Rattle.hs_engine.specs.Engines.{Meaning}
use Rattle.hs_nodes.specs.Blocks.{EndsBehind, IsPast}
use Rattle.hs_nodes.specs.Left.{AreLeftIn, nowhere}
use Rattle.hs_bits.specs.Marks.{is_marked}
use Rattle.hs_nodes.specs.Nodes.{AreHitsOf, HoldsPiece, IsKindSound, IsWellPart, MayRest, RunsPiece}
use Rattle.hs_nodes.specs.Nodes.{TakesPiece, most_ticks}
use Rattle.hs_nodes.specs.declared.ends.ChunkEnds.{ChunkEnds}
use Rattle.hs_nodes.specs.declared.hits.ChunkHits.{ChunkHits}
use Rattle.hs_nodes.specs.declared.table.Node.{Node}
use Rattle.hs_nodes.specs.declared.table.NodeKind.{NodeKind}
use Rattle.hs_nodes.specs.declared.table.NodeKind.TheVariants.{Engine, Literal, FirstLiteral, LookBack}
use Rattle.hs_nodes.specs.declared.table.NodeTable.{NodeTable}

-- what is kept of the node, in the region
abbrev pub node_part : (region : List ℕ) → Node → List ℕ
node_part region node = slice_range region node.start node.end

-- the pieces before those of a node with that parent
abbrev pub parent_pieces : (pieces : ℕ → List Piece) → Option ℕ → List Piece
parent_pieces pieces None = []
parent_pieces pieces (Some p) = pieces p

-- where the pieces of the node of that number are left
abbrev pub node_ends : List ChunkEnds → ℕ → ChunkEnds
node_ends ends k = slice_index_or ends k nowhere

-- where the pieces before those of a node with that parent are left: `all` is everywhere
abbrev pub entering_ends : (parent : Option ℕ) (all : ChunkEnds) (ends : List ChunkEnds) → ChunkEnds
entering_ends None all ends = all
entering_ends (Some p) all ends = node_ends ends p

-- the most steps of the nodes over so many bytes
abbrev pub nodes_ticks : List Node → (hits : List ChunkHits) (count : ℕ) → ℕ
nodes_ticks [] hits count = 0
nodes_ticks (node ∷ nodes) hits count = most_ticks node.kind hits count + nodes_ticks nodes hits count

-- The pieces behind which a node of that kind stands, where it has that parent with those pieces: these pieces. An
-- expression that looks back stands before its literal, and has no parent.
abbrev pub StandsBehind : NodeKind → (parent : Option ℕ) (pieces before : List Piece) → Type 0
StandsBehind (Engine number null) parent pieces before = before ≡ pieces
StandsBehind (Literal number len) parent pieces before = before ≡ pieces
StandsBehind (FirstLiteral number len) parent pieces before = before ≡ pieces
StandsBehind (LookBack pair) parent pieces before = parent ≡ None

-- no node keeps the byte of that number
abbrev pub IsOutside : List Node → ℕ → Type 0
IsOutside nodes i = (k : ℕ) (node : Node) → slice_get nodes k ≡ Some node → (i < node.start) ⊎ (node.end ≤ i)

-- the node is among the children of that one
pub record IsAmongChildren (starts children : List ℕ) (parent child : ℕ) : Type 0 where
  pub place : ℕ
  pub low : slice_index starts parent ≤ place
  pub high : place < slice_index starts (suc parent)
  pub is : slice_index children place ≡ child

module _ {E : Type 0} (meaning : E → Meaning) (table : NodeTable E) where
  -- The table can be run, for so many literals and a region of so many bytes: parents come first, what is kept of nodes
  -- lies in their order, what they name is there, and each node is among the children of its parent.
  pub record IsTableSound (literals size : ℕ) : Type 0 where
    pub earlier : (k p : ℕ) (node : Node) → slice_get table.nodes.items k ≡ Some node → node.parent ≡ Some p → p < k
    pub kinds : (k : ℕ) (node : Node) → slice_get table.nodes.items k ≡ Some node →
        IsKindSound meaning table.engines.items literals node.kind (node.end - node.start)
    pub order : (k : ℕ) (node : Node) → slice_get table.nodes.items k ≡ Some node → node.start ≤ node.end
    pub within : (k : ℕ) (node : Node) → slice_get table.nodes.items k ≡ Some node → node.end ≤ size
    pub apart : (j k : ℕ) (a b : Node) → j < k → slice_get table.nodes.items j ≡ Some a →
        slice_get table.nodes.items k ≡ Some b → a.end ≤ b.start
    pub starts_count : length table.child_starts.items ≡ suc (length table.nodes.items)
    pub starts_end : (k : ℕ) → k < length table.nodes.items →
        slice_index table.child_starts.items (suc k) ≤ length table.children.items
    pub children : (i : ℕ) → i < length table.children.items →
        slice_index table.children.items i < length table.nodes.items
    pub among : (k p : ℕ) (node : Node) → slice_get table.nodes.items k ≡ Some node → node.parent ≡ Some p →
        IsAmongChildren table.child_starts.items table.children.items p k

  -- The node of that number takes a chunk, and changes what is kept of it and its own ends alone.
  pub record IsNodeRun (k : ℕ) (node : Node) (old new : List ℕ) (prev : Prev) (at : ℕ) (past bytes : List ℕ)
      (hits : List ChunkHits) (all : ChunkEnds) (ends ends' : List ChunkEnds) : Type 0 where
    pub well : IsWellPart meaning table.engines.items node.kind (node_part new node) (at + length bytes)
    pub takes : TakesPiece meaning table.engines.items node.kind (node_part old node) (node_part new node) prev at past
        bytes hits (entering_ends node.parent all ends) (node_ends ends' k)
    pub ends_stay : (j : ℕ) → (j ≡ k → ⊥) → node_ends ends' j ≡ node_ends ends j
    pub parts_stay : (j : ℕ) (other : Node) → (j ≡ k → ⊥) → slice_get table.nodes.items j ≡ Some other →
        node_part new other ≡ node_part old other
    pub outside : (i : ℕ) → (i < node.start) ⊎ (node.end ≤ i) → slice_index new i ≡ slice_index old i

  -- The same of a node without a parent, but that it isn't told where it is left.
  pub record IsNodeCaughtUp (k : ℕ) (node : Node) (old new : List ℕ) (prev : Prev) (at : ℕ) (bytes : List ℕ) : Type 0
    where
      pub well : IsWellPart meaning table.engines.items node.kind (node_part new node) (at + length bytes)
      pub carries : (literals : List (List LiteralByte)) (piece : Piece) (u : List ℕ) →
          RunsPiece meaning table.engines.items literals node.kind [] piece →
          EndsBehind u prev at →
          HoldsPiece meaning table.engines.items node.kind [] piece (node_part old node) u →
          HoldsPiece meaning table.engines.items node.kind [] piece (node_part new node) (u ++ bytes)
      pub parts_stay : (j : ℕ) (other : Node) → (j ≡ k → ⊥) → slice_get table.nodes.items j ≡ Some other →
          node_part new other ≡ node_part old other
      pub outside : (i : ℕ) → (i < node.start) ⊎ (node.end ≤ i) → slice_index new i ≡ slice_index old i

  -- The node runs a piece behind others, as a rule those of its parent; `pieces` are those of each node, its own one
  -- last.
  pub record IsNodeOf (literals : List (List LiteralByte)) (pieces : ℕ → List Piece) (k : ℕ) (node : Node) :
      Type 0 where
    pub before : List Piece
    pub piece : Piece
    pub rest : List Piece
    pub behind : StandsBehind node.kind node.parent (parent_pieces pieces node.parent) before
    pub own : pieces k ≡ before ++ piece ∷ []
    pub runs : RunsPiece meaning table.engines.items literals node.kind before piece
    pub fit : IsFitChain (before ++ piece ∷ rest)

  abbrev pub AreNodesOf : (literals : List (List LiteralByte)) (pieces : ℕ → List Piece) → Type 0
  AreNodesOf literals pieces =
      (k : ℕ) (node : Node) → slice_get table.nodes.items k ≡ Some node → IsNodeOf literals pieces k node

  -- What is kept of the node in the region is that of its piece behind u.
  abbrev pub IsNodeHeld : (pieces : ℕ → List Piece) (region u : List ℕ) (k : ℕ) → Node → Type 0
  IsNodeHeld pieces region u k node =
      (piece : Piece) →
      pieces k ≡ parent_pieces pieces node.parent ++ piece ∷ [] →
      HoldsPiece meaning table.engines.items node.kind (parent_pieces pieces node.parent) piece
      (node_part region node) u

  -- and so of each node
  abbrev pub AreNodesHeld : (pieces : ℕ → List Piece) (region u : List ℕ) → Type 0
  AreNodesHeld pieces region u =
      (k : ℕ) (node : Node) → slice_get table.nodes.items k ≡ Some node → IsNodeHeld pieces region u k node

  -- what is kept of each node may be so at that offset
  abbrev pub AreNodesWell : (region : List ℕ) (at : ℕ) → Type 0
  AreNodesWell region at =
      (k : ℕ) (node : Node) →
      slice_get table.nodes.items k ≡ Some node →
      IsWellPart meaning table.engines.items node.kind (node_part region node) at

  -- each node that isn't marked may be passed over in the chunk
  abbrev pub MayNodesRest : (marks : List ℕ) (hits : List ChunkHits) (region : List ℕ) → Prev → (bytes : List ℕ) →
      Type 0
  MayNodesRest marks hits region prev bytes =
      (k : ℕ) (node : Node) →
      slice_get table.nodes.items k ≡ Some node →
      is_marked marks k ≡ false →
      MayRest meaning table.engines.items node.kind node.parent hits (node_part region node) prev bytes

  -- A chunk leads to what is kept of each node behind it, and tells where the pieces of each node are left that isn't
  -- spent.
  pub record AreNodesRun (spent : ℕ → Bool) (pieces : ℕ → List Piece) (region u bytes : List ℕ)
      (ends : List ChunkEnds) : Type 0 where
    pub held : AreNodesHeld pieces region (u ++ bytes)
    pub left : (k : ℕ) → k < length table.nodes.items → spent k ≡ false →
        AreLeftIn (pieces k) u bytes (node_ends ends k)

  -- The nodes take a chunk, for all pieces that they run and behind any stream that ends there.
  abbrev pub TakesNodes : (spent : ℕ → Bool) (old new : List ℕ) (prev : Prev) (at : ℕ) (past bytes : List ℕ)
      (hits : List ChunkHits) (ends : List ChunkEnds) → Type 0
  TakesNodes spent old new prev at past bytes hits ends =
      (literals : List (List LiteralByte)) (pieces : ℕ → List Piece) (u : List ℕ) →
      AreNodesOf literals pieces →
      EndsBehind u prev at →
      IsPast past u →
      Each (λ b. b < 256) (u ++ bytes) →
      AreHitsOf literals hits u bytes →
      AreNodesHeld pieces old u →
      AreNodesRun spent pieces new u bytes ends

  -- What a chunk changes: of the nodes that aren't marked nothing, and they are left nowhere; and no byte that no node
  -- keeps.
  pub record ChangesMarked (marks : List ℕ) (old new : List ℕ) (ends : List ChunkEnds) : Type 0 where
    pub len : length new ≡ length old
    pub unmarked : (k : ℕ) (node : Node) → slice_get table.nodes.items k ≡ Some node → is_marked marks k ≡ false →
        (node_ends ends k ≡ nowhere) × (node_part new node ≡ node_part old node)
    pub outside : (i : ℕ) → IsOutside table.nodes.items i → slice_index new i ≡ slice_index old i

-- More numbers are marked, all below a count.
pub record AreMoreMarks (count : ℕ) (old new : List ℕ) : Type 0 where
  pub room : length new ≡ length old
  pub kept : (k : ℕ) → is_marked old k ≡ true → is_marked new k ≡ true
  pub below : (k : ℕ) → is_marked new k ≡ true → k < count
