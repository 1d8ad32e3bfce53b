-- Bits of one row that are set in another too, some places on.
use Rattle.std.specs.Prelude.{ℕ, ◌-◌, Bool, ◌&&◌, nat_le, List}
use Rattle.hs_base.specs.Bits.{has_word_bit}

-- the bit so many places before is set in both rows
abbrev pub is_shifted : List ℕ → List ℕ → ℕ → ℕ → Bool
is_shifted live row distance k =
    nat_le distance k && (has_word_bit live (k - distance) && has_word_bit row (k - distance))
