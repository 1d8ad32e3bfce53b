-- Which graph of nodes runs the patterns of a plan.
use Rattle.std.specs.Prelude.{◌≡◌, ◌↔◌, ◌⊎◌, ℕ, ◌+◌, ◌-◌, ◌^◌, ◌<◌, ◌≤◌, Bool, true, false, List, [], ◌∷◌, ◌++◌}
use Rattle.std.specs.Prelude.{suc, length, map, Some, slice_get, slice_index, slice_range}
use Rattle.hs_base.specs.Chains.{Piece, piece_tree}
use Rattle.hs_base.specs.KeptPieces.{Form, nothing, positions, literal, first, last, ring, form_size, IsFieldAt, Says}
use Rattle.hs_base.specs.LeavingLaws.{HasSpansOfChains}
use Rattle.hs_base.specs.Lists.{Each}
use Rattle.hs_base.specs.Literals.{LiteralByte}
use Rattle.hs_base.specs.Patterns.{is_single}
use Rattle.hs_base.specs.Regions.{Place, Plan, IsPlan, list_places, place_form, place_size, plan_starts, fields_at}
use Rattle.hs_base.specs.Trees.{Tree}
use Rattle.hs_engine.specs.Engines.{Meaning}
use Rattle.hs_layout.specs.Layouts.{AreApart, Laid, laid_size, layout_of}
use Rattle.hs_nodes.specs.Openings.{AreOpenings}
use Rattle.hs_nodes.specs.Resting.{AreEnginesIdle}
use Rattle.hs_nodes.specs.Waking.{AreRowsSound, AreWakesSound}
use Rattle.hs_nodes.specs.Walks.{AreNodesOf, IsAmongChildren, IsTableSound}
use Rattle.hs_nodes.specs.declared.table.Node.{Node}
use Rattle.hs_nodes.specs.declared.table.NodeKind.{NodeKind}
use Rattle.hs_nodes.specs.declared.table.NodeKind.TheVariants.{Engine, Literal, FirstLiteral, LookBack}
use Rattle.hs_reports.specs.Gathering.{AreOfNode}
use Rattle.hs_reports.specs.Identifiers.{numbers_of}
pub use Rattle.hs_reports.specs.Identifiers.{singles_of, with_single}
use Rattle.hs_reports.specs.Terminals.{AreTerminals}
use Rattle.hs_reports.specs.declared.identifier.Identifier.{Identifier}
use Rattle.hs_nodes.specs.declared.graph.FieldCopy.{FieldCopy}
use Rattle.hs_nodes.specs.declared.graph.NodeCopies.{NodeCopies}
use Rattle.hs_nodes.specs.declared.graph.Graph.{Graph}

-- something is kept of a piece of that form
abbrev pub keeps : Form → Bool
keeps nothing = false
keeps (positions tree) = true
keeps (literal n) = true
keeps (first set n) = true
keeps (last set m) = true
keeps (ring set m) = true

-- the layout of the regions of a plan
abbrev pub plan_layout : Plan → Laid
plan_layout plan = layout_of (length plan.singles) (length plan.identifiers) (map place_size (list_places plan))

-- The regions of an engine are the fields of that form, where it runs that expression.
pub record KeepsForm (m : Meaning) (form : Form) (tree : Tree) : Type 0 where
  pub kept : keeps form ≡ true
  pub wide : m.width ≡ form_size form
  pub says : (bytes u : List ℕ) (entered : List Bool) → length entered ≡ length u →
      Says form bytes u entered ↔ m.field bytes tree u entered
  pub may : (bytes : List ℕ) (at : ℕ) → m.well bytes at ↔ IsFieldAt form bytes at

-- a node of that kind keeps something
abbrev pub keeps_field : NodeKind → Bool
keeps_field (Engine number null) = true
keeps_field (Literal number len) = true
keeps_field (FirstLiteral number len) = false
keeps_field (LookBack pair) = false

module _ {E : Type 0} (meaning : E → Meaning) (graph : Graph E) where
  -- What a node of that kind keeps of the piece are fields of that form.
  abbrev pub KeepsFields : NodeKind → Form → Piece → Type 0
  KeepsFields (Engine number null) form piece =
      (e : E) → slice_get graph.table.engines.items number ≡ Some e → KeepsForm (meaning e) form (piece_tree piece)
  KeepsFields (Literal number len) form piece = form ≡ literal len
  KeepsFields (FirstLiteral number len) form piece = form ≡ nothing
  KeepsFields (LookBack pair) form piece = form ≡ nothing

  -- The node of that number runs the piece of that number, with those before it in its chain.
  pub record IsNodeFor (plan : Plan) (pieces : ℕ → List Piece) (k : ℕ) (node : Node) (role : ℕ) (p : Place) : Type 0
    where
      pub there : slice_get graph.table.nodes.items k ≡ Some node
      pub place : slice_get (list_places plan) role ≡ Some p
      pub behind : pieces k ≡ p.pieces ++ p.piece ∷ []
      pub fields : KeepsFields node.kind (place_form p) p.piece

  -- The node keeps its bytes in the field of that number.
  pub record IsOwnField (plan : Plan) (node : Node) (role : ℕ) : Type 0 where
    pub start : node.start ≡ slice_index (plan_starts plan) role
    pub end : node.end ≡ slice_index (plan_starts plan) (role + 1)

  -- The field of that number is a copy of the node's.
  pub record IsCopied (k role : ℕ) : Type 0 where
    pub number : ℕ
    pub copy : FieldCopy
    pub there : slice_get graph.copies.items number ≡ Some copy
    pub node : copy.node ≡ k
    pub field : copy.field ≡ role

  -- A node that keeps something has a field of the plan.
  pub record HasField (plan : Plan) (pieces : ℕ → List Piece) (k : ℕ) (node : Node) : Type 0 where
    pub role : ℕ
    pub p : Place
    pub runs : IsNodeFor plan pieces k node role p
    pub own : IsOwnField plan node role

  -- A field of the plan is that of a node, or a copy of it.
  pub record HasNode (plan : Plan) (pieces : ℕ → List Piece) (role : ℕ) (p : Place) : Type 0 where
    pub k : ℕ
    pub node : Node
    pub runs : IsNodeFor plan pieces k node role p
    pub kept : IsOwnField plan node role ⊎ IsCopied k role

  -- The graph runs the patterns of the plan, with those literals: each node has pieces, each chain has a terminal, and
  -- each piece of which something is kept a node.
  pub record RunsPlan (literals : List (List LiteralByte)) (plan : Plan) : Type 0 where
    pub is_plan : IsPlan plan
    pub spans : Each HasSpansOfChains plan.patterns
    pub ids : numbers_of graph.identifiers.items ≡ plan.identifiers
    pub singles : numbers_of (singles_of graph.identifiers.items) ≡ plan.singles
    pub single : (i : ℕ) (x : Identifier) → slice_get graph.identifiers.items i ≡ Some x →
        is_single plan.patterns x.id.0 ≡ x.single
    pub pieces : ℕ → List Piece
    pub nodes : AreNodesOf meaning graph.table literals pieces
    pub no_pieces : pieces (length graph.table.nodes.items) ≡ []
    pub terminals : AreTerminals pieces plan.identifiers plan.patterns graph.terminals.items
    pub fields : (k : ℕ) (node : Node) → slice_get graph.table.nodes.items k ≡ Some node →
        keeps_field node.kind ≡ true → HasField plan pieces k node
    pub roles : (role : ℕ) (p : Place) → slice_get (list_places plan) role ≡ Some p →
        keeps (place_form p) ≡ true → HasNode plan pieces role p

-- The numbers of the copies of so many nodes stand by node: those of each between two starts.
pub record AreCopiesByNode (copies : List FieldCopy) (count : ℕ) (by_node : NodeCopies) : Type 0 where
  pub count_is : length by_node.starts.items ≡ suc count
  pub within : (k : ℕ) → k < count → slice_index by_node.starts.items (suc k) ≤ length by_node.numbers.items
  pub there : (i : ℕ) → i < length by_node.numbers.items → slice_index by_node.numbers.items i < length copies
  pub among : (i : ℕ) (copy : FieldCopy) → slice_get copies i ≡ Some copy →
      IsAmongChildren by_node.starts.items by_node.numbers.items copy.node i

module _ {E : Type 0} (graph : Graph E) where
  -- The copy names a node and a field that are there, of one size, and no node keeps a byte of the field.
  pub record IsCopySound (l : Laid) (copy : FieldCopy) : Type 0 where
    pub node : Node
    pub there : slice_get graph.table.nodes.items copy.node ≡ Some node
    pub within : copy.field + 1 < length l.starts
    pub same : node.end - node.start
        ≡ slice_index l.starts (copy.field + 1) - slice_index l.starts copy.field
    pub apart : (k : ℕ) (other : Node) → slice_get graph.table.nodes.items k ≡ Some other →
        (other.end ≤ slice_index l.starts copy.field) ⊎ (slice_index l.starts (copy.field + 1) ≤ other.start)

  -- What the graph keeps fits regions of that layout: what nodes keep lies behind the header in their order, and
  -- copies rise.
  pub record FitsLayout (l : Laid) : Type 0 where
    pub apart : AreApart l
    pub order : (k : ℕ) (node : Node) → slice_get graph.table.nodes.items k ≡ Some node → node.start ≤ node.end
    pub behind : (k : ℕ) (node : Node) → slice_get graph.table.nodes.items k ≡ Some node →
        fields_at l.singles l.identifiers ≤ node.start
    pub within : (k : ℕ) (node : Node) → slice_get graph.table.nodes.items k ≡ Some node → node.end ≤ laid_size l
    pub identifiers : length graph.identifiers.items ≡ l.identifiers
    pub singles : length (singles_of graph.identifiers.items) ≡ l.singles
    pub few_identifiers : l.identifiers < 2 ^ 32
    pub copies : (i : ℕ) (copy : FieldCopy) → slice_get graph.copies.items i ≡ Some copy → IsCopySound l copy
    pub rising : (i j : ℕ) (a b : FieldCopy) → i < j → slice_get graph.copies.items i ≡ Some a →
        slice_get graph.copies.items j ≡ Some b → a.field < b.field
    pub by_node : AreCopiesByNode graph.copies.items (length graph.table.nodes.items) graph.node_copies
    pub in_turn : (j k : ℕ) (a b : Node) → j < k → slice_get graph.table.nodes.items j ≡ Some a →
        slice_get graph.table.nodes.items k ≡ Some b → a.end ≤ b.start

  -- The terminals name identifiers and nodes that are there, and lie by node.
  pub record AreTerminalsSound : Type 0 where
    pub known : Each
        (λ t. (t.identifier < length graph.identifiers.items) × (t.node < length graph.table.nodes.items + 1))
        graph.terminals.items
    pub count : length graph.terminal_starts.items ≡ length graph.table.nodes.items + 2
    pub order : (k : ℕ) → k < length graph.table.nodes.items + 1 →
        slice_index graph.terminal_starts.items k ≤ slice_index graph.terminal_starts.items (k + 1)
    pub within : (k : ℕ) → k < length graph.table.nodes.items + 1 →
        slice_index graph.terminal_starts.items (k + 1) ≤ length graph.terminals.items
    pub of_node : (k : ℕ) → k < length graph.table.nodes.items + 1 →
        AreOfNode graph.terminals.items k
        (slice_range graph.terminals.items (slice_index graph.terminal_starts.items k)
        (slice_index graph.terminal_starts.items (k + 1)))

-- The graph can be run with those literals, over regions of that layout.
pub record IsGraphSound {E : Type 0} (meaning : E → Meaning) (graph : Graph E) (literals : List (List LiteralByte))
    (l : Laid) : Type 0 where
  pub table : IsTableSound meaning graph.table (length literals) (laid_size l)
  pub few : length graph.table.nodes.items < 2 ^ 32
  pub few_literals : length literals < 2 ^ 32
  pub short : (number : ℕ) (literal : List LiteralByte) → slice_get literals number ≡ Some literal →
      length literal ≤ 32
  pub fits : FitsLayout graph l
  pub terminals : AreTerminalsSound graph
  pub wakes : AreWakesSound graph.table.nodes.items graph.wakes (length literals)
  pub rows : AreRowsSound meaning graph.table graph.wakes
  pub idle : AreEnginesIdle meaning graph.table.engines.items
  pub openings : AreOpenings graph.table.nodes.items (length literals) graph.openings
