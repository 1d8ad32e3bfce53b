-- Children and terminals as lists, with a table of where those of each node begin.
use Rattle.std.specs.Prelude.{◌≡◌, ◌<◌, ◌≤◌, ℕ, suc, List, length, Some, slice_get, slice_index}
use Rattle.hs_base.specs.Lists.{Each}
use Rattle.hs_nodes.specs.Walks.{IsAmongChildren}
use Rattle.hs_nodes.specs.declared.table.Node.{Node}
use Rattle.hs_reports.specs.declared.terminal.Terminal.{Terminal}

-- A node with a parent is among the children of that, and all children are nodes that are there.
pub record AreChildren (nodes : List Node) (starts children : List ℕ) : Type 0 where
  pub count : length starts ≡ suc (length nodes)
  pub within : Each (λ start. start ≤ length children) starts
  pub known : Each (λ child. child < length nodes) children
  pub among : (k p : ℕ) (node : Node) → slice_get nodes k ≡ Some node → node.parent ≡ Some p →
      IsAmongChildren starts children p k

-- Terminals lie by node, those of each node from its start to before the next one's.
pub record LieByNode (starts : List ℕ) (terminals : List Terminal) : Type 0 where
  pub within : Each (λ start. start ≤ length terminals) starts
  pub rising : (j k : ℕ) → j ≤ k → k < length starts → slice_index starts j ≤ slice_index starts k
  pub known : (i : ℕ) (x : Terminal) → slice_get terminals i ≡ Some x → x.node < length starts
  pub low : (i : ℕ) (x : Terminal) → slice_get terminals i ≡ Some x → slice_index starts x.node ≤ i
  pub high : (i : ℕ) (x : Terminal) → slice_get terminals i ≡ Some x → suc x.node < length starts →
      i < slice_index starts (suc x.node)
