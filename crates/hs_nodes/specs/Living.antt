-- Bytes that aren't 0, and the nodes that they are kept of.
use Rattle.std.specs.Prelude.{◌≡◌, ◌==◌, ℕ, ◌<◌, ◌≤◌, Bool, not, List, length, Some, slice_get, slice_index}
use Rattle.hs_nodes.specs.declared.table.Node.{Node}

-- whether the byte of that number isn't 0
abbrev pub is_live : (bytes : List ℕ) → ℕ → Bool
is_live bytes i = not (slice_index bytes i == 0)

-- From one node on those before that one end up to the place, and that one, if there is one, doesn't.
pub record IsAround (nodes : List Node) (from place k : ℕ) : Type 0 where
  pub low : from ≤ k
  pub high : k ≤ length nodes
  pub before : (j : ℕ) (node : Node) → from ≤ j → j < k → slice_get nodes j ≡ Some node → node.end ≤ place
  pub own : (node : Node) → slice_get nodes k ≡ Some node → place < node.end

-- What is kept of nodes lies in their order, within so many bytes.
pub record AreInTurn (nodes : List Node) (size : ℕ) : Type 0 where
  pub order : (k : ℕ) (node : Node) → slice_get nodes k ≡ Some node → node.start ≤ node.end
  pub within : (k : ℕ) (node : Node) → slice_get nodes k ≡ Some node → node.end ≤ size
  pub apart : (j k : ℕ) (a b : Node) → j < k → slice_get nodes j ≡ Some a → slice_get nodes k ≡ Some b →
      a.end ≤ b.start
