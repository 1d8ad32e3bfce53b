-- The literals that stand in a file, one a line.
use Rattle.std.specs.Prelude.{ℕ, Bool, false, ◌&&◌, ◌==◌, nat_le, List, length, map, filter}
use Rattle.std.specs.List.{slice_split}
use Rattle.hs_base.specs.Literals.{LiteralByte}

-- what stands before, between and behind the line feeds
abbrev pub text_lines : List ℕ → List (List ℕ)
text_lines bytes = slice_split (λ b. b == 10) bytes

-- a line of 2 to 32 bytes
abbrev pub is_looked_for : List ℕ → Bool
is_looked_for line = nat_le 2 (length line) && nat_le (length line) 32

-- the literal that takes just these bytes
abbrev pub exact : List ℕ → List LiteralByte
exact line = map (λ b. record { byte = b; both_cases = false }) line

-- a literal for each line of 2 to 32 bytes, in order
abbrev pub words_of : List ℕ → List (List LiteralByte)
words_of bytes = map exact (filter is_looked_for (text_lines bytes))
