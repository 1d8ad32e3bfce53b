-- The positions of an expression, counted piece by piece.
use Rattle.std.specs.Prelude.{ℕ, ◌≤◌, nat_lt, List, [], ◌∷◌, Option, Some, None, if◌then◌else◌}
use Rattle.std.specs.Option.{option_or}
use Rattle.hs_base.specs.Chains.{Piece, lit, nfa, rep}
use Rattle.hs_expr.specs.Counts.{positions}

-- the most positions of a piece
abbrev pub most_positions : ℕ
most_positions = 512

-- so many positions, where they are too many
abbrev pub too_many : ℕ → Option ℕ
too_many n = if nat_lt most_positions n then Some n else None

-- the positions of the first of these pieces that is an expression and has too many
abbrev pub first_excess : List Piece → Option ℕ
first_excess [] = None
first_excess (lit xs ∷ pieces) = first_excess pieces
first_excess (nfa t ∷ pieces) = option_or (too_many (positions t)) (first_excess pieces)
first_excess (rep set least greatest ∷ pieces) = first_excess pieces

-- those of the first such piece of some chains
abbrev pub first_excess_of : List (List Piece) → Option ℕ
first_excess_of [] = None
first_excess_of (chain ∷ chains) = option_or (first_excess chain) (first_excess_of chains)

-- an expression has no more positions than it may; other pieces have none
abbrev pub HasFewPositions : Piece → Type 0
HasFewPositions (lit xs) = Unit {0}
HasFewPositions (nfa t) = positions t ≤ most_positions
HasFewPositions (rep set least greatest) = Unit {0}
