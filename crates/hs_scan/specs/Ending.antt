-- What only the end of a stream would report.
use Rattle.std.specs.Prelude.{◌≡◌, ◌↔◌, ℕ, ◌+◌, ◌<◌, Bool, true, List, length}
use Rattle.std.specs.List.{list_any}
use Rattle.hs_base.specs.declared.context.Next.{Next}
use Rattle.hs_base.specs.Chains.{Piece}
use Rattle.hs_base.specs.Leaving.{LeavesAt}
use Rattle.hs_reports.specs.Terminals.{is_end_at}
use Rattle.hs_reports.specs.WordBits.{word_bit}
use Rattle.hs_nodes.specs.declared.graph.Graph.{Graph}

-- Bit 0 of the word of each node tells whether its pieces are left behind u, where that comes next. Behind the last
-- node are no pieces.
abbrev pub AreLeftAt : {E : Type 0} → Graph E → (pieces : ℕ → List Piece) (u : List ℕ) (next : Next)
    (lefts : ℕ → ℕ) → Type 0
AreLeftAt graph pieces u next lefts =
    (k : ℕ) → k < length graph.table.nodes.items + 1 → (word_bit (lefts k) 0 ≡ true) ↔ LeavesAt (pieces k) u next

-- a match of the identifier of that number ends at the offset, by these words
abbrev pub is_ended : {E : Type 0} → Graph E → (lefts : ℕ → ℕ) (at p : ℕ) → Bool
is_ended graph lefts at p = list_any (is_end_at lefts p at 0) graph.terminals.items
