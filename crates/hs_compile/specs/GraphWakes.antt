-- The nodes that a chunk may wake.
use Rattle.std.specs.Prelude.{◌≡◌, ℕ, ◌<◌, ◌≤◌, Bool, true, false, List, length, map, Option, Some, None}
use Rattle.std.specs.Prelude.{slice_get, slice_index}
use Rattle.hs_base.specs.declared.byte_set.ByteSet.{ByteSet}
use Rattle.hs_base.specs.declared.context.Mask.{Mask}
use Rattle.hs_base.specs.Lists.{Each}
use Rattle.hs_nodes.specs.declared.table.Node.{Node}
use Rattle.hs_nodes.specs.declared.table.NodeKind.{NodeKind}
use Rattle.hs_nodes.specs.declared.table.NodeKind.TheVariants.{Engine, Literal, FirstLiteral, LookBack}
use Rattle.hs_nodes.specs.Waking.{CoversRow, IsListed, waking_literal}
use Rattle.hs_rose.specs.declared.engine.PieceEngine.{PieceEngine}
use Rattle.hs_rose.specs.PieceEngines.{piece_meaning}
use Rattle.hs_waking.specs.declared.prev_set.PrevSet.{PrevSet}
use Rattle.hs_waking.specs.EntryRows.{TellBeginnings}
use Rattle.hs_waking.specs.Fits.{IsBehindBy, row_numbers}
use Rattle.hs_waking.specs.RowTables.{Extends}
use Rattle.hs_waking.specs.declared.row_table.RowTable.{RowTable}
use Rattle.hs_waking.specs.declared.wake_row.WakeRow.{WakeRow}

-- the literals that wake the nodes
abbrev pub waking_literals : List Node → List (Option ℕ)
waking_literals nodes = map (λ node. waking_literal node.kind) nodes

-- The literals that wake the nodes are among so many, and no literal but first ones lacks a parent.
pub record AreWakeable (nodes : List Node) (literals : ℕ) : Type 0 where
  pub known : (k number : ℕ) (node : Node) → slice_get nodes k ≡ Some node →
      waking_literal node.kind ≡ Some number → number < literals
  pub behind : (k number len : ℕ) (node : Node) → slice_get nodes k ≡ Some node →
      node.kind ≡ Literal number len → node.parent ≡ None → ⊥

-- a node of that kind and with that parent is one of an engine without a parent
abbrev pub is_engine : NodeKind → Bool
is_engine (Engine number null) = true
is_engine (Literal number len) = false
is_engine (FirstLiteral number len) = false
is_engine (LookBack pair) = false

abbrev pub is_first_engine : NodeKind → (parent : Option ℕ) → Bool
is_first_engine kind None = is_engine kind
is_first_engine kind (Some p) = false

-- nodes that are there, with those among the first so many that are of engines without a parent
pub record AreFirstEngines (nodes : List Node) (n : ℕ) (list : List ℕ) : Type 0 where
  pub known : Each (λ k. k < length nodes) list
  pub all : (k : ℕ) (node : Node) → k < n → slice_get nodes k ≡ Some node →
      is_first_engine node.kind node.parent ≡ true → IsListed list k

-- The rows, which begin behind these, tell how matches of the engine of the node of that number begin, if it is one.
abbrev pub AreRowsAt : List Node → List PieceEngine → (k : ℕ) → PrevSet → (rows : List (List ByteSet)) → Type 0
AreRowsAt nodes engines k behind rows =
    (number : ℕ) (null : Option Mask) (node : Node) (e : PieceEngine) →
    slice_get nodes k ≡ Some node →
    node.kind ≡ Engine number null →
    slice_get engines number ≡ Some e →
    TellBeginnings (piece_meaning e) behind rows

-- The rows of a table name sets that are there, and those of what may stand before them.
pub record AreWithin (table : RowTable) : Type 0 where
  pub numbers : (i d : ℕ) (row : WakeRow) → slice_get table.rows.items i ≡ Some row → d < length (row_numbers row) →
      slice_index (row_numbers row) d < length table.sets.items
  pub begins : (i : ℕ) (row : WakeRow) → slice_get table.rows.items i ≡ Some row → IsBehindBy row table.sets.items

-- Such a row of a table stands behind the first so many, which names sets that are there, and fits where the own one
-- does.
pub record PutsOne (new : RowTable) (from : ℕ) (behind : PrevSet) (own : List ByteSet) : Type 0 where
  pub place : ℕ
  pub row : WakeRow
  pub behind_all : from ≤ place
  pub there : slice_get new.rows.items place ≡ Some row
  pub covers : CoversRow new.sets.items behind own row

-- Rows that begin behind these were put behind the others of a table, each of which stays, as do the sets.
pub record PutsRows (old new : RowTable) (behind : PrevSet) (own : List (List ByteSet)) : Type 0 where
  pub more : (i : ℕ) (row : WakeRow) → slice_get old.rows.items i ≡ Some row → slice_get new.rows.items i ≡ Some row
  pub kept : Extends old.sets.items new.sets.items
  pub within : AreWithin old → AreWithin new
  pub each : (d : ℕ) (one : List ByteSet) → slice_get own d ≡ Some one → PutsOne new (length old.rows.items) behind one
