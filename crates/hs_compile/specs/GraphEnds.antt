-- The terminals of chains.
use Rattle.std.specs.Prelude.{◌≡◌, ◌-◌, ◌<◌, ℕ, suc, List, map, Option, Some, None, slice_get}
use Rattle.std.specs.List.{AllZip}
use Rattle.hs_reports.specs.declared.terminal.Terminal.{Terminal}
use Rattle.hs_rose.specs.declared.info.ChainInfo.{ChainInfo}
use Rattle.hs_rose.specs.declared.info.EntryInfo.{EntryInfo}
use Rattle.hs_rose.specs.Programs.{Tables}
use Rattle.hs_compile.specs.GraphNodes.{IsNodeOfRole}

-- what the terminal asks is what is asked of the chain's entry
pub record AsksFor (t : Tables) (c : ChainInfo) (x : Terminal) : Type 0 where
  pub info : EntryInfo
  pub there : slice_get t.entries (c.entry - 1) ≡ Some info
  pub identifier : x.identifier ≡ info.identifier
  pub least : x.least ≡ info.min_offset
  pub greatest : x.greatest ≡ info.max_offset

-- The node of the terminal is that of the chain's last role, or the number for chains that have none.
pub data IsLastNode (t : Tables) (paths : List (List ℕ)) (none : ℕ) (c : ChainInfo) (node : ℕ) : Type 0 where
  by_role : (i : ℕ) → c.first < c.end → suc i ≡ c.end → IsNodeOfRole t paths node i → IsLastNode t paths none c node
  by_none : c.first ≡ c.end → node ≡ none → IsLastNode t paths none c node

-- the terminal is that of the chain
pub record IsEndOf (t : Tables) (paths : List (List ℕ)) (none : ℕ) (c : ChainInfo) (x : Terminal) : Type 0 where
  pub asks : AsksFor t c x
  pub node : IsLastNode t paths none c x.node

-- the terminal is that of a chain
pub record HasChain (t : Tables) (paths : List (List ℕ)) (none : ℕ) (x : Terminal) : Type 0 where
  pub number : ℕ
  pub chain : ChainInfo
  pub there : slice_get t.chains number ≡ Some chain
  pub is : IsEndOf t paths none chain x

-- the chain has a terminal
pub record HasEnd (t : Tables) (paths : List (List ℕ)) (none : ℕ) (terminals : List Terminal) (c : ChainInfo) :
    Type 0 where
  pub number : ℕ
  pub terminal : Terminal
  pub there : slice_get terminals number ≡ Some terminal
  pub is : IsEndOf t paths none c terminal

-- Each terminal is that of a chain, and each chain has one.
pub record AreChainEnds (t : Tables) (paths : List (List ℕ)) (none : ℕ) (terminals : List Terminal) : Type 0 where
  pub each : (i : ℕ) (x : Terminal) → slice_get terminals i ≡ Some x → HasChain t paths none x
  pub all : (j : ℕ) (c : ChainInfo) → slice_get t.chains j ≡ Some c → HasEnd t paths none terminals c

-- the node at which a chain ends that has that last one: one of no pieces ends at `none`
abbrev pub end_node : (none : ℕ) → Option ℕ → ℕ
end_node none None = none
end_node none (Some k) = k

-- the nodes at which the chains with those last nodes end
abbrev pub end_nodes : (none : ℕ) → List (Option ℕ) → List (Option ℕ)
end_nodes none lasts = map (λ last. Some (end_node none last)) lasts

-- The terminal is that of the chain of that number, at the node where that ends.
pub record IsTerminalOf (t : Tables) (lasts : List (Option ℕ)) (none : ℕ) (number : ℕ) (x : Terminal) : Type 0 where
  pub chain : ChainInfo
  pub there : slice_get t.chains number ≡ Some chain
  pub asks : AsksFor t chain x
  pub last : Option ℕ
  pub last_there : slice_get lasts number ≡ Some last
  pub node_is : x.node ≡ end_node none last

-- The terminals are those of the chains of these numbers.
abbrev pub AreTerminalsOf : Tables → (lasts : List (Option ℕ)) (none : ℕ) → List ℕ → List Terminal → Type 0
AreTerminalsOf t lasts none numbers terminals = AllZip (IsTerminalOf t lasts none) numbers terminals
