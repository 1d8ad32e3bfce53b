-- Look-back pieces.
use Rattle.std.specs.Prelude.{ℕ, Bool, false, nat_le, List, [], ◌∷◌, Option, Some, None}
use Rattle.hs_base.specs.Chains.{Piece, lit, nfa, rep}
use Rattle.hs_base.specs.Trees.{Tree}
use Rattle.hs_expr.specs.Counts.{greatest_width}

-- the bytes before a literal that are looked at again
abbrev pub look_back_window : ℕ
look_back_window = 16

-- matches of that greatest width fit the window
abbrev pub is_narrow : Option ℕ → Bool
is_narrow None = false
is_narrow (Some width) = nat_le width look_back_window

-- an expression with these pieces behind it
abbrev pub is_look_back : Tree → List Piece → Bool
is_look_back t [] = false
is_look_back t (lit xs ∷ pieces) = is_narrow (greatest_width t)
is_look_back t (nfa u ∷ pieces) = false
is_look_back t (rep set least greatest ∷ pieces) = false

-- the first piece of a chain is an expression that fits the window, and is followed by a literal
abbrev pub begins_with_look_back : List Piece → Bool
begins_with_look_back [] = false
begins_with_look_back (lit xs ∷ pieces) = false
begins_with_look_back (nfa t ∷ pieces) = is_look_back t pieces
begins_with_look_back (rep set least greatest ∷ pieces) = false
