-- Bytes of literals.
use Rattle.std.specs.Prelude.{ℕ, ◌+◌, Bool, true, false, ◌||◌, ◌&&◌, ◌==◌, nat_le, List, [], ◌∷◌, Option, Some, None}
use Rattle.std.specs.Prelude.{if◌then◌else◌}
use Rattle.hs_base.specs.ByteSets.{bytes_where}

-- one of `a` to `z`
abbrev pub is_small_letter : ℕ → Bool
is_small_letter b = nat_le 97 b && nat_le b 122

-- What stands at one place of a literal: one byte, or both cases of a letter, given by its small one.
pub record LiteralByte : Type 0 where
  pub byte : ℕ
  pub both_cases : Bool

-- the byte may stand there
abbrev pub takes : LiteralByte → ℕ → Bool
takes x b = (b == x.byte) || (x.both_cases && (b + 32 == x.byte))

-- the bytes that may stand there
abbrev pub literal_set : LiteralByte → List Bool
literal_set x = bytes_where (takes x)

-- the members of a set that begins at n, rising
abbrev pub places_from : ℕ → List Bool → List ℕ
places_from n [] = []
places_from n (true ∷ set) = n ∷ places_from (n + 1) set
places_from n (false ∷ set) = places_from (n + 1) set

-- the literal byte that stands for exactly these members: for one, or for the two cases of one letter
abbrev pub literal_of_places : List ℕ → Option LiteralByte
literal_of_places [] = None
literal_of_places (b ∷ []) = Some (record { byte = b; both_cases = false })
literal_of_places (a ∷ b ∷ []) =
    if is_small_letter b && (a + 32 == b) then Some (record { byte = b; both_cases = true }) else None
literal_of_places (a ∷ b ∷ c ∷ others) = None

-- the literal byte that stands for exactly that set
abbrev pub literal_of : List Bool → Option LiteralByte
literal_of set = literal_of_places (places_from 0 set)
