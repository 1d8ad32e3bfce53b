-- What holds of chains in a stream: how a chain goes on by a piece, where a piece is entered, and the ends of a
-- pattern.
use Rattle.std.specs.Prelude.{◌≡◌, ◌↔◌, ◌⊎◌, ℕ, ◌≤◌, Bool, true, ◌&&◌, ◌||◌, List, [], ◌∷◌, ◌++◌, length}
use Rattle.hs_base.specs.declared.context.Next.{Next}
use Rattle.hs_base.specs.Lists.{OneOf}
use Rattle.hs_base.specs.Contexts.{class_of}
use Rattle.hs_base.specs.Trees.{Tree}
use Rattle.hs_base.specs.Spans.{Spans}
use Rattle.hs_base.specs.Chains.{Piece, nfa, chains_of, piece_tree, ChainSpans, IsFitChain}
use Rattle.hs_base.specs.Fields.{Leaves, entered_always}
use Rattle.hs_base.specs.Leaving.{LeavesAt, LeavesBehind, IsEmptyAt, AreEntered, TellsLeaving, entered_never}
use Rattle.hs_base.specs.Leaving.{IsAtMostWide}
use Rattle.hs_base.specs.Patterns.{Pattern}
use Rattle.hs_base.specs.Settling.{EndsHere}

-- Pieces and one more are left where that one is left behind them, or where they are left and it has the empty span.
abbrev pub ChainsCompose : Type 0
ChainsCompose =
    (pieces rest : List Piece) (piece : Piece) (u : List ℕ) (next : Next) →
    IsFitChain (pieces ++ piece ∷ rest) →
    LeavesAt (pieces ++ piece ∷ []) u next
    ↔ (LeavesBehind pieces piece u next ⊎ (LeavesAt pieces u next × IsEmptyAt (piece_tree piece) u next))

-- A piece is left behind others exactly as its expression is, where it is entered at the offsets at which they are
-- left.
abbrev pub LeavesAreListed : Type 0
LeavesAreListed =
    (pieces : List Piece) (piece : Piece) (u : List ℕ) (entered : List Bool) (next : Next) →
    AreEntered pieces u entered →
    LeavesBehind pieces piece u next ↔ Leaves (piece_tree piece) u entered next

-- A first piece is entered at every offset.
abbrev pub FirstIsEntered : Type 0
FirstIsEntered = (u : List ℕ) → AreEntered [] u (entered_always u)

-- The entries grow by one for each byte: whether the pieces before are left where it comes next.
abbrev pub EntriesGrow : Type 0
EntriesGrow =
    (pieces : List Piece) (u : List ℕ) (entered : List Bool) (b : ℕ) (enters : Bool) →
    AreEntered pieces u entered →
    ((enters ≡ true) ↔ LeavesAt pieces u (class_of b)) →
    AreEntered pieces (u ++ b ∷ []) (entered ++ enters ∷ [])

-- A history has one list of entries.
abbrev pub EntriesOnce : Type 0
EntriesOnce =
    (pieces : List Piece) (u : List ℕ) (xs ys : List Bool) →
    AreEntered pieces u xs →
    AreEntered pieces u ys →
    xs ≡ ys

-- the chains of the pattern have together exactly its spans
abbrev pub HasSpansOfChains : Pattern → Type 0
HasSpansOfChains x =
    (w : List ℕ) (ended : Bool) (i j : ℕ) →
    Spans w ended x.tree i j ↔ OneOf (λ chain. ChainSpans w ended chain i j) (chains_of x.tree)

-- A match of a pattern ends, within its bounds, where one of its chains is left.
abbrev pub EndsAreLeaving : Type 0
EndsAreLeaving =
    (x : Pattern) (u : List ℕ) (next : Next) →
    HasSpansOfChains x →
    EndsHere x.id u next x
    ↔ ((x.least ≤ length u) × (length u ≤ x.greatest) × OneOf (λ chain. LeavesAt chain u next) (chains_of x.tree))

-- A first piece of at most n bytes is told from the last n bytes alone: it is left as it is where it is entered at
-- these only. So nothing has to be kept of it.
abbrev pub WindowIsEnough : Type 0
WindowIsEnough =
    (tree : Tree) (n : ℕ) (front back : List ℕ) (next : Next) →
    IsAtMostWide n tree →
    (n ≤ length back) ⊎ (front ≡ []) →
    Leaves tree (front ++ back) (entered_never front ++ entered_always back) next
    ↔ LeavesBehind [] (nfa tree) (front ++ back) next

-- What tells where pieces are left goes on by a piece: by where that one is left behind them, and where it is empty.
abbrev pub LeavingGoesOn : Type 0
LeavingGoesOn =
    (pieces rest : List Piece) (piece : Piece) (u : List ℕ) (now out null : Next → Bool) →
    IsFitChain (pieces ++ piece ∷ rest) →
    TellsLeaving now pieces u →
    ((next : Next) → (out next ≡ true) ↔ LeavesBehind pieces piece u next) →
    ((next : Next) → (null next ≡ true) ↔ IsEmptyAt (piece_tree piece) u next) →
    TellsLeaving (λ next. out next || (null next && now next)) (pieces ++ piece ∷ []) u

-- No pieces are left everywhere.
abbrev pub LeavingBegins : Type 0
LeavingBegins = (u : List ℕ) → TellsLeaving (λ next. true) [] u
