-- What holds of literals in a stream.
use Rattle.std.specs.Prelude.{◌≡◌, ◌↔◌, ℕ, suc, ◌+◌, ◌-◌, ◌<◌, ◌≤◌, Bool, true, false, List, [], ◌∷◌, ◌++◌, length}
use Rattle.hs_base.specs.declared.context.Next.{Next}
use Rattle.hs_base.specs.Lists.{Each}
use Rattle.hs_base.specs.Literals.{LiteralByte}
use Rattle.hs_base.specs.LiteralEnds.{EndsAt}
use Rattle.hs_base.specs.Spans.{Spans}
use Rattle.hs_base.specs.Chains.{Piece, lit, piece_tree}
use Rattle.hs_base.specs.Fields.{Leaves}
use Rattle.hs_base.specs.Leaving.{LeavesBehind}
use Rattle.hs_base.specs.LiteralRows.{TellsEntries, shifted, IsEnteredBefore}

-- The bits of a literal move by one for each byte.
abbrev pub LiteralsStep : Type 0
LiteralsStep =
    (n : ℕ) (bit : ℕ → Bool) (u : List ℕ) (entered : List Bool) (b : ℕ) (enters : Bool) →
    length entered ≡ length u →
    TellsEntries n bit u entered →
    TellsEntries n (shifted n enters bit) (u ++ b ∷ []) (entered ++ enters ∷ [])

-- A literal is left, whatever comes next, where it was entered at its first byte and its bytes are the last ones.
abbrev pub LiteralsLeave : Type 0
LiteralsLeave =
    (literal : List LiteralByte) (m : ℕ) (bit : ℕ → Bool) (u : List ℕ) (entered : List Bool) (next : Next) →
    length literal ≡ suc m →
    length entered ≡ length u →
    TellsEntries (suc m) bit u entered →
    Leaves (piece_tree (lit literal)) u entered next
    ↔ ((bit m ≡ true) × Spans u false (piece_tree (lit literal)) (length u - suc m) (length u))

-- A literal behind other pieces is left where those are left before its first byte and its bytes are the last ones: for
-- a literal that is first, and for one behind a piece that is asked anew, nothing has to be kept.
abbrev pub LiteralsLeaveBehind : Type 0
LiteralsLeaveBehind =
    (pieces : List Piece) (literal : List LiteralByte) (u : List ℕ) (next : Next) →
    1 ≤ length literal →
    length literal ≤ length u →
    LeavesBehind pieces (lit literal) u next
    ↔ (IsEnteredBefore pieces (length literal) u
    × Spans u false (piece_tree (lit literal)) (length u - length literal) (length u))

-- The spans of a literal are where it ends in the text.
abbrev pub LiteralSpansEnd : Type 0
LiteralSpansEnd =
    (literal : List LiteralByte) (w : List ℕ) (ended : Bool) (i : ℕ) →
    1 ≤ length literal →
    Each (λ b. b < 256) w →
    Spans w ended (piece_tree (lit literal)) i (i + length literal) ↔ EndsAt literal w (i + length literal)
