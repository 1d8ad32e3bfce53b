-- The ends of identifiers in a block, from where the nodes are left.
use Rattle.std.specs.Prelude.{◌≡◌, ℕ, ◌+◌, ◌*◌, ◌<◌, ◌≤◌, ◌⊎◌, List, [], slice_index, slice_index_or, slice_range}
use Rattle.hs_engine.specs.Engines.{Meaning}
use Rattle.hs_reports.specs.EndTables.{EndTable}
use Rattle.hs_reports.specs.Gathering.{AreEndsBelow}
use Rattle.hs_reports.specs.declared.terminal.Terminal.{Terminal}
use Rattle.hs_nodes.specs.Walks.{node_ends}
use Rattle.hs_nodes.specs.declared.ends.ChunkEnds.{ChunkEnds}
use Rattle.hs_nodes.specs.declared.graph.Graph.{Graph}

-- Where the pieces of the node of that number are left. Behind the last node are no pieces, which are left everywhere.
abbrev pub ends_or_all : (ends : List ChunkEnds) (all : ChunkEnds) → ℕ → ChunkEnds
ends_or_all ends all k = slice_index_or ends k all

-- in one block
abbrev pub left_before : (ends : List ChunkEnds) (all : ChunkEnds) (block k : ℕ) → ℕ
left_before ends all block k = slice_index (ends_or_all ends all k).before block

abbrev pub left_behind : (ends : List ChunkEnds) (all : ChunkEnds) (block k : ℕ) → ℕ
left_behind ends all block k = slice_index (ends_or_all ends all k).behind block

-- The node is left nowhere in that block.
pub record IsPassed (ends : ChunkEnds) (block : ℕ) : Type 0 where
  pub before_is : slice_index ends.before block ≡ 0
  pub behind_is : slice_index ends.behind block ≡ 0

-- A word of the first so many blocks is 0 then only if it was and the node is left nowhere in the block; the others
-- stay.
pub record AddsBusy (own : ChunkEnds) (count : ℕ) (old new : List ℕ) : Type 0 where
  pub below : (j : ℕ) → j < count → slice_index new j ≡ 0 → (slice_index old j ≡ 0) × IsPassed own j
  pub above : (j : ℕ) → count ≤ j → slice_index new j ≡ slice_index old j

-- the terminals of the node of that number
abbrev pub terminals_of : {E : Type 0} → Graph E → ℕ → List Terminal
terminals_of graph node =
    slice_range graph.terminals.items (slice_index graph.terminal_starts.items node)
    (slice_index graph.terminal_starts.items (node + 1))

-- The node of that number has no terminal, or it is left nowhere in that block.
abbrev pub IsUntold : {E : Type 0} → Graph E → (node : ℕ) → ChunkEnds → (block : ℕ) → Type 0
IsUntold graph node ends block = (terminals_of graph node ≡ []) ⊎ IsPassed ends block

-- In a block whose word is 0 no node that has a terminal is left anywhere.
abbrev pub AreBusy : {E : Type 0} → Graph E → List ChunkEnds → (words : List ℕ) → Type 0
AreBusy graph ends words =
    (block k : ℕ) → block < 8 → slice_index words block ≡ 0 → IsUntold graph k (node_ends ends k) block

-- A word is 0 then only if it was and nothing is told of the node in its block.
abbrev pub AddsTold : {E : Type 0} → Graph E → (node : ℕ) → ChunkEnds → (old new : List ℕ) → Type 0
AddsTold graph node own old new =
    (j : ℕ) → j < 8 → slice_index new j ≡ 0 → (slice_index old j ≡ 0) × IsUntold graph node own j

-- What one node adds to the ends that those before it give in a block at that offset.
abbrev pub GathersNode : {E : Type 0} → Graph E → (node at before behind : ℕ) → EndTable → EndTable → Type 0
GathersNode graph node at before behind old new =
    (befores behinds : ℕ → ℕ) →
    befores node ≡ before →
    behinds node ≡ behind →
    AreEndsBelow graph.terminals.items befores behinds at node old →
    AreEndsBelow graph.terminals.items befores behinds at (node + 1) new

module _ {E : Type 0} (meaning : E → Meaning) (graph : Graph E) where
  -- The table has the ends that the nodes before that number give in a block of a chunk at that offset.
  abbrev pub AreGathered : (ends : List ChunkEnds) (all : ChunkEnds) (at block node : ℕ) → EndTable → Type 0
  AreGathered ends all at block node table =
      AreEndsBelow graph.terminals.items (left_before ends all block) (left_behind ends all block) (at + 64 * block)
      node table
