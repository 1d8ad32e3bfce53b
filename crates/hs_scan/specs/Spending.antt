-- Which nodes are spent in a chunk.
use Rattle.std.specs.Prelude.{ℕ, Bool, ◌&&◌, nat_le, List, length}
use Rattle.hs_nodes.specs.Lone.{is_spent_node}
use Rattle.hs_nodes.specs.declared.lone.LoneNodes.{LoneNodes}

-- The lone nodes of whose identifier a pair is told, where the chunk has a block at least; in a shorter one no node is.
abbrev pub spent_in : LoneNodes → (told bytes : List ℕ) → ℕ → Bool
spent_in lone told bytes k = nat_le 64 (length bytes) && is_spent_node lone told k
