-- Which nodes a chunk may wake though nothing is live in them.
use Rattle.std.specs.Prelude.{◌≡◌, ℕ, suc, ◌<◌, ◌≤◌, Bool, true, false, List, length, Option, Some, None}
use Rattle.std.specs.Prelude.{replicate, slice_get, slice_index}
use Rattle.hs_base.specs.declared.byte_set.ByteSet.{ByteSet}
use Rattle.hs_base.specs.declared.context.Mask.{Mask}
use Rattle.hs_base.specs.declared.context.Prev.{Prev}
use Rattle.hs_engine.specs.Engines.{Meaning}
use Rattle.hs_bits.specs.Marks.{is_marked}
use Rattle.hs_nodes.specs.Walks.{IsAmongChildren}
use Rattle.hs_nodes.specs.declared.table.Node.{Node}
use Rattle.hs_nodes.specs.declared.table.NodeKind.{NodeKind}
use Rattle.hs_nodes.specs.declared.table.NodeKind.TheVariants.{Engine, Literal, FirstLiteral, LookBack}
use Rattle.hs_nodes.specs.declared.table.NodeTable.{NodeTable}
use Rattle.hs_waking.specs.declared.wake_row.WakeRow.{WakeRow}
use Rattle.hs_nodes.specs.declared.wake_table.WakeTable.{WakeTable}
use Rattle.hs_base.specs.Bits.{has_word_bit}
use Rattle.hs_waking.specs.Fits.{FitsAt, IsBehindBy, IsRowBy, row_numbers}
use Rattle.hs_waking.specs.EntryRows.{TellBeginnings}
use Rattle.hs_waking.specs.declared.prev_set.PrevSet.{PrevSet}
use Rattle.hs_nodes.specs.Resting.{SleepsThrough}

-- the literal that wakes a node of that kind where it ends, if there is one
abbrev pub waking_literal : NodeKind → Option ℕ
waking_literal (Engine number null) = None
waking_literal (Literal number len) = None
waking_literal (FirstLiteral number len) = Some number
waking_literal (LookBack pair) = Some pair.literal

-- the number is in the list
pub record IsListed (numbers : List ℕ) (k : ℕ) : Type 0 where
  pub place : ℕ
  pub within : place < length numbers
  pub is : slice_index numbers place ≡ k

-- The table has, for so many literals, under each of them the nodes that it wakes, and all engines without a parent. It
-- has nodes that are there alone. No literal but first ones lacks a parent.
pub record AreWakesSound (nodes : List Node) (wakes : WakeTable) (literals : ℕ) : Type 0 where
  pub starts_count : length wakes.literal_starts.items ≡ suc literals
  pub rising : (number : ℕ) → number < literals →
      slice_index wakes.literal_starts.items number ≤ slice_index wakes.literal_starts.items (suc number)
  pub within : (number : ℕ) → number < literals →
      slice_index wakes.literal_starts.items (suc number) ≤ length wakes.literal_nodes.items
  pub by_literal : (i : ℕ) → i < length wakes.literal_nodes.items →
      slice_index wakes.literal_nodes.items i < length nodes
  pub engines : (i : ℕ) → i < length wakes.first_engines.items → slice_index wakes.first_engines.items i < length nodes
  pub woken : (k number : ℕ) (node : Node) → slice_get nodes k ≡ Some node →
      waking_literal node.kind ≡ Some number →
      IsAmongChildren wakes.literal_starts.items wakes.literal_nodes.items number k
  pub entered : (k number : ℕ) (null : Option Mask) (node : Node) → slice_get nodes k ≡ Some node →
      node.kind ≡ Engine number null → node.parent ≡ None → IsListed wakes.first_engines.items k
  pub behind : (k number len : ℕ) (node : Node) → slice_get nodes k ≡ Some node →
      node.kind ≡ Literal number len → node.parent ≡ None → ⊥

-- a node of that kind is one of an engine that has no empty span
abbrev pub is_never_empty : NodeKind → Bool
is_never_empty (Engine number None) = true
is_never_empty (Engine number (Some mask)) = false
is_never_empty (Literal number len) = false
is_never_empty (FirstLiteral number len) = false
is_never_empty (LookBack pair) = false

-- a chunk wakes nothing in a node of that kind that is entered everywhere, which has no empty span either
abbrev pub IsKindAsleep : {E : Type 0} → (E → Meaning) → (engines : List E) → NodeKind → Prev → (bytes : List ℕ) →
    Type 0
IsKindAsleep meaning engines (Engine number null) prev bytes =
    (null ≡ None) × ((e : _) → slice_get engines number ≡ Some e → SleepsThrough (meaning e) prev bytes)
IsKindAsleep meaning engines (Literal number len) prev bytes = ⊥
IsKindAsleep meaning engines (FirstLiteral number len) prev bytes = ⊥
IsKindAsleep meaning engines (LookBack pair) prev bytes = ⊥

-- The engines without a parent that aren't marked have no empty span, and a chunk wakes nothing in them.
abbrev pub AreEnginesUnwoken : {E : Type 0} → (E → Meaning) → NodeTable E → (marks : List ℕ) → Prev →
    (bytes : List ℕ) → Type 0
AreEnginesUnwoken meaning table marks prev bytes =
    (k number : ℕ) (null : Option Mask) (node : Node) →
    slice_get table.nodes.items k ≡ Some node →
    node.kind ≡ Engine number null →
    node.parent ≡ None →
    is_marked marks k ≡ false →
    (null ≡ None) × ((e : _) → slice_get table.engines.items number ≡ Some e → SleepsThrough (meaning e) prev bytes)

-- Where a row of an engine fits, behind these, there the row of a table does, whose sets have these numbers.
pub record CoversRow (sets : List ByteSet) (behind : PrevSet) (own : List ByteSet) (row : WakeRow) : Type 0 where
  pub cut : List ByteSet
  pub numbered : IsRowBy (row_numbers row) sets cut
  pub covers : (prev : Prev) (bytes : List ℕ) (i : ℕ) →
      FitsAt behind own prev bytes i → FitsAt row.behind cut prev bytes i

-- From one row of a table up to another stands one for each of those that tell how matches of an engine begin.
pub record AreRowsFor (m : Meaning) (sets : List ByteSet) (rows : List WakeRow) (from to : ℕ) : Type 0 where
  pub behind : PrevSet
  pub own : List (List ByteSet)
  pub tell : TellBeginnings m behind own
  pub each : (d : ℕ) (one : List ByteSet) → slice_get own d ≡ Some one →
      (i : ℕ) × (row : WakeRow) × (from ≤ i) × (i < to) × (slice_get rows i ≡ Some row) × CoversRow sets behind one row

-- The rows name sets that are there, and those that stand beside an engine without a parent are its own.
pub record AreRowsOf {E : Type 0} (meaning : E → Meaning) (nodes : List Node) (engines : List E) (first starts : List ℕ)
    (rows : List WakeRow) (sets : List ByteSet) : Type 0 where
  pub within : (i d : ℕ) (row : WakeRow) → slice_get rows i ≡ Some row → d < length (row_numbers row) →
      slice_index (row_numbers row) d < length sets
  pub begins : (i : ℕ) (row : WakeRow) → slice_get rows i ≡ Some row → IsBehindBy row sets
  pub starts_count : length starts ≡ suc (length first)
  pub known : (i : ℕ) → i < length first → slice_index starts (suc i) ≤ length rows
  pub are : (i k number : ℕ) (null : Option Mask) (node : Node) (e : E) →
      slice_get first i ≡ Some k → slice_get nodes k ≡ Some node →
      node.kind ≡ Engine number null → slice_get engines number ≡ Some e →
      AreRowsFor (meaning e) sets rows (slice_index starts i) (slice_index starts (suc i))

abbrev pub AreRowsSound : {E : Type 0} → (E → Meaning) → NodeTable E → WakeTable → Type 0
AreRowsSound meaning table wakes =
    AreRowsOf meaning table.nodes.items table.engines.items wakes.first_engines.items wakes.row_starts.items
    wakes.rows.items wakes.sets.items

-- no place of a chunk
abbrev pub no_places : List ℕ
no_places = replicate 8 0

-- The words have each place of a chunk behind `prev` at which a row fits, of those from one of a table up to another.
abbrev pub HavePlaces : (rows : List WakeRow) (sets : List ByteSet) (from to : ℕ) → Prev → (bytes places : List ℕ) →
    Type 0
HavePlaces rows sets from to prev bytes places =
    (i : ℕ) (row : WakeRow) (cut : List ByteSet) (p : ℕ) →
    from ≤ i →
    i < to →
    slice_get rows i ≡ Some row →
    IsRowBy (row_numbers row) sets cut →
    p < length bytes →
    FitsAt row.behind cut prev bytes p →
    has_word_bit places p ≡ true

-- And so for the rows of the engine that stands at that place.
abbrev pub AreStartsBy : WakeTable → (place : ℕ) → Prev → (bytes places : List ℕ) → Type 0
AreStartsBy wakes place =
    HavePlaces wakes.rows.items wakes.sets.items (slice_index wakes.row_starts.items place)
    (slice_index wakes.row_starts.items (suc place))
