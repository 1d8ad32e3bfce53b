-- The bits of a word of 64 places, and of words of them.
use Rattle.std.specs.Prelude.{ℕ, zero, suc, Bool, ◌==◌, List}
use Rattle.std.specs.Int.{bit_at}
use Rattle.hs_base.specs.Bits.{has_word_bit}

-- whether the bit of that place is set
unfoldable pub place_bit : ℕ → ℕ → Bool
place_bit word i = bit_at word i == 1

-- whether the bit of the place before that one is set; nothing but `first` tells it of the first place
abbrev pub is_behind : (first : Bool) (words : List ℕ) → ℕ → Bool
is_behind first words zero = first
is_behind first words (suc p) = has_word_bit words p
