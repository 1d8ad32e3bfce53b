-- Chains whose values are within their types.
use Rattle.std.specs.Prelude.{◌≡◌, ◌<◌, List, length}
use Rattle.hs_base.specs.Chains.{Piece, lit, nfa, rep}
use Rattle.hs_base.specs.Lists.{Each}
use Rattle.hs_base.specs.Literals.{LiteralByte}
use Rattle.hs_base.specs.Trees.{IsProper, AreBounds}

-- it is a byte, or both cases of one
abbrev pub IsProperByte : LiteralByte → Type 0
IsProperByte x = x.byte < 256

-- all values of a piece are within their types
abbrev pub IsProperPiece : Piece → Type 0
IsProperPiece (lit xs) = Each IsProperByte xs
IsProperPiece (nfa t) = IsProper t
IsProperPiece (rep set least greatest) = (length set ≡ 256) × AreBounds least greatest

-- and of the pieces of chains
abbrev pub AreProperChains : List (List Piece) → Type 0
AreProperChains chains = Each (Each IsProperPiece) chains
