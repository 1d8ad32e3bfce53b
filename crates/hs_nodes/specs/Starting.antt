-- Engines without a parent over a chunk: they are entered where a match may begin, and that suffices.
use Rattle.std.specs.Prelude.{◌≡◌, ℕ, ◌+◌, ◌*◌, ◌/◌, ◌%◌, ◌<◌, ◌≤◌, Bool, false, List, ◌++◌, length, take}
use Rattle.std.specs.Prelude.{Option, Some, None, slice_get, slice_index}
use Rattle.hs_base.specs.declared.context.Mask.{Mask}
use Rattle.hs_base.specs.declared.context.Prev.{Prev}
use Rattle.hs_base.specs.Bits.{AreZero}
use Rattle.hs_base.specs.Contexts.{prev_at}
use Rattle.hs_base.specs.Trees.{Tree}
use Rattle.hs_bits.specs.WordBits.{AreSet, Marks, word_bit}
use Rattle.hs_block.specs.Blocks.{IsFieldOf}
use Rattle.hs_block.specs.Scans.{IsLeftBefore, IsLeftBehind, Scans}
use Rattle.hs_engine.specs.declared.ends.BlockEnds.{BlockEnds}
use Rattle.hs_engine.specs.Engines.{Meaning}
use Rattle.hs_lazy.specs.Caches.{Told, told}
use Rattle.hs_lazy.specs.declared.cache.Cache.{Cache}
use Rattle.hs_nodes.specs.Blocks.{block, front}
use Rattle.hs_nodes.specs.Resting.{IsIdleEngine}
use Rattle.hs_nodes.specs.declared.ends.ChunkEnds.{ChunkEnds}
use Rattle.hs_nodes.specs.declared.table.Node.{Node}
use Rattle.hs_nodes.specs.declared.table.NodeKind.{NodeKind}
use Rattle.hs_nodes.specs.declared.table.NodeKind.TheVariants.{Engine}
use Rattle.hs_nodes.specs.declared.table.NodeTable.{NodeTable}
use Rattle.hs_waking.specs.EntryRows.{DoEntriesSuffice, entries_to}
use Rattle.hs_waking.specs.Starts.{starts_at}
use Rattle.hs_waking.specs.declared.starts.Starts.{Starts}

-- Nothing is live in a region of the engine in which all bytes are 0, and it may stand at any offset.
abbrev pub IsIdle : Meaning → Type 0
IsIdle m = (part : List ℕ) → length part ≡ m.width → AreZero part → IsIdleEngine m part

-- The engine takes a block of bytes at `at`, behind `prev`: for each history of the old region the new one is the field
-- behind the block, and the words of the ends tell where the expression is left.
abbrev pub ScansBlock : Meaning → (old new : List ℕ) → Prev → (at enters : ℕ) (bytes : List ℕ) → BlockEnds → Type 0
ScansBlock m old new prev at enters bytes ends =
    (tree : Tree) (u : List ℕ) (entered : List Bool) →
    IsFieldOf m old prev at tree u entered →
    Scans (m.field new tree) tree u entered bytes enters ends.before ends.behind

-- And so the block of that number of a chunk behind `prev`, behind any stream that ends there.
abbrev pub ScansBehind : Meaning → (old new : List ℕ) → Prev → (chunk : List ℕ) (number at enters : ℕ)
    (bytes : List ℕ) → BlockEnds → Type 0
ScansBehind m old new prev chunk number at enters bytes ends =
    (u : List ℕ) →
    prev ≡ prev_at u (length u) →
    ScansBlock m old new (prev_at (front u chunk number) (length (front u chunk number))) at enters bytes ends

-- the bit of that place of a chunk, by the words of its blocks
abbrev pub is_place : (words : ℕ → ℕ) (place : ℕ) → Bool
is_place words p = word_bit (words (p / 64)) (p % 64)

-- whether the expression was entered at each offset up to a block of a chunk, in which it is where the words tell it
abbrev pub entered_to : (entered : List Bool) (words : ℕ → ℕ) (bytes : List ℕ) (number : ℕ) → List Bool
entered_to entered words bytes j = entered ++ entries_to (is_place words) (length (take (64 * j) bytes))

-- A chunk behind u, in which the expression is entered where the words tell it, leads to its field behind the chunk,
-- and the ends tell where it is left in each block.
pub record IsRunEntered (Field : List ℕ → List Bool → Type 0) (tree : Tree) (u : List ℕ) (entered : List Bool)
    (bytes : List ℕ) (words : ℕ → ℕ) (ends : ChunkEnds) : Type 0 where
  pub field : Field (u ++ bytes) (entered ++ entries_to (is_place words) (length bytes))
  pub before_is : (j : ℕ) → j < 8 → Marks (length (block bytes j)) (slice_index ends.before j)
      (IsLeftBefore tree (front u bytes j) (entered_to entered words bytes j) (block bytes j) (words j))
  pub behind_is : (j : ℕ) → j < 8 → Marks (length (block bytes j)) (slice_index ends.behind j)
      (IsLeftBehind tree (front u bytes j) (entered_to entered words bytes j) (block bytes j) (words j))

-- The engine takes a chunk so, for each history of the old region.
abbrev pub RunsEntered : Meaning → (old new : List ℕ) → Prev → (at : ℕ) (bytes : List ℕ) (words : ℕ → ℕ) → ChunkEnds →
    Type 0
RunsEntered m old new prev at bytes words ends =
    (tree : Tree) (u : List ℕ) (entered : List Bool) →
    IsFieldOf m old prev at tree u entered →
    IsRunEntered (m.field new tree) tree u entered bytes words ends

-- The engine takes a chunk as if it were entered before each byte: it is entered so that this suffices.
pub record RunsAlone (m : Meaning) (old new : List ℕ) (prev : Prev) (at : ℕ) (bytes : List ℕ) (ends : ChunkEnds) :
    Type 0 where
  pub words : ℕ → ℕ
  pub runs : RunsEntered m old new prev at bytes words ends
  pub suffices : DoEntriesSuffice m (is_place words) prev bytes

-- The words have what is told of the bytes of that block of a chunk, and no more.
pub record IsToldIn (bytes : List ℕ) (t : Told) (j before behind : ℕ) : Type 0 where
  pub before_in : (i : ℕ) → i < length (block bytes j) → word_bit before i ≡ t.before (64 * j + i)
  pub before_past : (i : ℕ) → length (block bytes j) ≤ i → word_bit before i ≡ false
  pub behind_in : (i : ℕ) → i < length (block bytes j) → word_bit behind i ≡ t.behind (64 * j + i)
  pub behind_past : (i : ℕ) → length (block bytes j) ≤ i → word_bit behind i ≡ false

-- And so in each block.
abbrev pub AreToldEnds : (bytes : List ℕ) → ChunkEnds → Told → Type 0
AreToldEnds bytes ends t = (j : ℕ) → IsToldIn bytes t j (slice_index ends.before j) (slice_index ends.behind j)

-- It suffices that a node of that kind, if it is one of an engine, is entered where its matches may begin.
abbrev pub DoStartsSuffice : {E : Type 0} → (E → Meaning) → (engines : List E) → NodeKind → Starts → (number : ℕ) →
    Prev → (bytes : List ℕ) → Type 0
DoStartsSuffice {E = E} meaning engines kind starts k prev bytes =
    (number : ℕ) (null : Option Mask) (e : E) →
    kind ≡ Engine number null →
    slice_get engines number ≡ Some e →
    DoEntriesSuffice (meaning e) (starts_at starts k) prev bytes

-- And so for each node without a parent of which a cache tells nothing.
abbrev pub AreStartsEnough : {E : Type 0} → (E → Meaning) → NodeTable E → Cache → Starts → Prev → (bytes : List ℕ) →
    Type 0
AreStartsEnough meaning table cache starts prev bytes =
    (k : ℕ) (node : Node) →
    slice_get table.nodes.items k ≡ Some node →
    node.parent ≡ None →
    told cache k ≡ None →
    DoStartsSuffice meaning table.engines.items node.kind starts k prev bytes

-- The pieces before are left before each byte of a chunk.
abbrev pub IsEnteredThroughout : ChunkEnds → (bytes : List ℕ) → Type 0
IsEnteredThroughout enters bytes = (j : ℕ) → j < 8 → AreSet (slice_index enters.before j) (length (block bytes j))
