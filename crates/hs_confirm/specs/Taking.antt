-- Whether a literal takes bytes, and whether it ends at an offset, as truth values.
use Rattle.std.specs.Prelude.{ℕ, ◌-◌, Bool, true, false, ◌&&◌, nat_le, List, [], ◌∷◌, length, take, drop}
use Rattle.hs_base.specs.Literals.{LiteralByte, takes}

-- whether the bytes are ones that the literal takes
abbrev pub takes_all : List LiteralByte → List ℕ → Bool
takes_all [] [] = true
takes_all [] (b ∷ bytes) = false
takes_all (x ∷ literal) [] = false
takes_all (x ∷ literal) (b ∷ bytes) = takes x b && takes_all literal bytes

-- whether the literal ends at an offset within the text
unfoldable pub ends_there : List LiteralByte → List ℕ → ℕ → Bool
ends_there literal text offset =
    nat_le (length literal) offset && takes_all literal (take (length literal) (drop (offset - length literal) text))
