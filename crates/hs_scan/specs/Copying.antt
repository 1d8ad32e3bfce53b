-- Fields that are copies of what is kept of a node.
use Rattle.std.specs.Prelude.{◌≡◌, ◌⊎◌, ℕ, ◌+◌, ◌<◌, ◌≤◌, List, length, Some, slice_get, slice_index}
use Rattle.hs_base.specs.Regions.{fields_at}
use Rattle.hs_layout.specs.Layouts.{Laid, field_bytes}
use Rattle.hs_nodes.specs.Walks.{node_part}
use Rattle.hs_nodes.specs.declared.table.Node.{Node}
use Rattle.hs_nodes.specs.declared.graph.FieldCopy.{FieldCopy}
use Rattle.hs_nodes.specs.declared.graph.Graph.{Graph}
use Rattle.hs_scan.specs.declared.copying.Spot.{Spot}

module _ {E : Type 0} (graph : Graph E) (l : Laid) where
  -- The field is that of the node, and no other byte is another one.
  pub record IsFieldCopied (copy : FieldCopy) (old new : List ℕ) : Type 0 where
    pub len : length new ≡ length old
    pub same : (node : Node) → slice_get graph.table.nodes.items copy.node ≡ Some node →
        field_bytes l new copy.field ≡ node_part old node
    pub outside : (i : ℕ) → (i < slice_index l.starts copy.field) ⊎ (slice_index l.starts (copy.field + 1) ≤ i) →
        slice_index new i ≡ slice_index old i

  -- The first so many copies are made, and what is kept of the nodes is as before, as is the header.
  pub record AreFieldsCopied (count : ℕ) (old new : List ℕ) : Type 0 where
    pub len : length new ≡ length old
    pub copied : (i : ℕ) (copy : FieldCopy) (node : Node) → i < count →
        slice_get graph.copies.items i ≡ Some copy →
        slice_get graph.table.nodes.items copy.node ≡ Some node →
        field_bytes l new copy.field ≡ node_part new node
    pub nodes : (k : ℕ) (node : Node) → slice_get graph.table.nodes.items k ≡ Some node →
        node_part new node ≡ node_part old node
    pub header : (i : ℕ) → i < fields_at l.singles l.identifiers → slice_index new i ≡ slice_index old i

  -- ---- step by step

  -- the copy is made
  abbrev pub IsMade : (region : List ℕ) → FieldCopy → Type 0
  IsMade region copy =
      (node : Node) →
      slice_get graph.table.nodes.items copy.node ≡ Some node →
      field_bytes l region copy.field ≡ node_part region node

  -- the byte is in the copy's field
  abbrev pub IsInField : FieldCopy → (i : ℕ) → Type 0
  IsInField copy i = (slice_index l.starts copy.field ≤ i) × (i < slice_index l.starts (copy.field + 1))

  -- the byte is kept of the copy's node
  pub record IsInNode (copy : FieldCopy) (i : ℕ) : Type 0 where
    pub node : Node
    pub there : slice_get graph.table.nodes.items copy.node ≡ Some node
    pub low : node.start ≤ i
    pub high : i < node.end

  -- Copies are made, and all else is as before.
  pub record MakesCopies (old new : List ℕ) : Type 0 where
    pub len : length new ≡ length old
    pub nodes : (k : ℕ) (node : Node) (i : ℕ) → slice_get graph.table.nodes.items k ≡ Some node → node.start ≤ i →
        i < node.end → slice_index new i ≡ slice_index old i
    pub header : (i : ℕ) → i < fields_at l.singles l.identifiers → slice_index new i ≡ slice_index old i
    pub copies : (n : ℕ) (copy : FieldCopy) → slice_get graph.copies.items n ≡ Some copy →
        IsMade new copy ⊎ ((i : ℕ) → IsInField copy i → slice_index new i ≡ slice_index old i)

  -- All copies of the node of that number are made.
  abbrev pub AreMadeOf : (region : List ℕ) (k : ℕ) → Type 0
  AreMadeOf region k =
      (n : ℕ) (copy : FieldCopy) → slice_get graph.copies.items n ≡ Some copy → copy.node ≡ k → IsMade region copy

  -- From one copy on the fields of those before that one end up to the place, and that one's, if there is one, doesn't.
  pub record IsCopyAround (from place n : ℕ) : Type 0 where
    pub low : from ≤ n
    pub high : n ≤ length graph.copies.items
    pub before : (j : ℕ) (copy : FieldCopy) → from ≤ j → j < n → slice_get graph.copies.items j ≡ Some copy →
        slice_index l.starts (copy.field + 1) ≤ place
    pub own : (copy : FieldCopy) → slice_get graph.copies.items n ≡ Some copy →
        place < slice_index l.starts (copy.field + 1)

  -- Nodes and copies before the spot end up to its byte.
  pub record IsSpot (spot : Spot) : Type 0 where
    pub few_nodes : spot.node ≤ length graph.table.nodes.items
    pub few_copies : spot.copy ≤ length graph.copies.items
    pub nodes : (j : ℕ) (node : Node) → j < spot.node → slice_get graph.table.nodes.items j ≡ Some node →
        node.end ≤ spot.from
    pub copies : (j : ℕ) (copy : FieldCopy) → j < spot.copy → slice_get graph.copies.items j ≡ Some copy →
        slice_index l.starts (copy.field + 1) ≤ spot.from

  -- Each copy is made, or has nothing to do with the bytes from the one to before the other.
  abbrev pub ArePassed : (region : List ℕ) (low high : ℕ) → Type 0
  ArePassed region low high =
      (n : ℕ) (copy : FieldCopy) → slice_get graph.copies.items n ≡ Some copy →
      IsMade region copy ⊎ ((i : ℕ) → low ≤ i → i < high → IsInField copy i ⊎ IsInNode copy i → ⊥)

  -- The copy of that number is made if its field has the byte, and the place behind it is the field's end; else it is
  -- the next byte.
  pub data GoesOn (region : List ℕ) (n place : ℕ) : (next : ℕ) → Type 0 where
    behind_field : {next : ℕ} (copy : FieldCopy) → slice_get graph.copies.items n ≡ Some copy →
        slice_index l.starts copy.field ≤ place → IsMade region copy →
        next ≡ slice_index l.starts (copy.field + 1) → GoesOn region n place next
    behind_byte : {next : ℕ} → ((copy : FieldCopy) → slice_get graph.copies.items n ≡ Some copy →
        place < slice_index l.starts copy.field) → next ≡ place + 1 → GoesOn region n place next

  -- The node of that number keeps the byte and ends there, and its copies are made.
  pub record IsKeptUpTo (region : List ℕ) (k place end : ℕ) : Type 0 where
    pub node : Node
    pub there : slice_get graph.table.nodes.items k ≡ Some node
    pub low : node.start ≤ place
    pub end_is : end ≡ node.end
    pub made : AreMadeOf region k
