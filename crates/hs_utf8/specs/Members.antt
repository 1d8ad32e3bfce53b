-- The members of a set of code points, which is given by ranges in any order.
use Rattle.std.specs.Prelude.{ℕ, Bool, ◌&&◌, ◌||◌, nat_lt, nat_le, List}
use Rattle.regex_class.specs.Ranges.{in_ranges}

-- the code point has an encoding: it is no surrogate (The Unicode Standard, "Unicode Encoding Forms")
abbrev pub has_encoding : ℕ → Bool
has_encoding c = nat_lt c 0xD800 || (nat_le 0xE000 c && nat_lt c 0x110000)

-- the code point lies in one of the ranges, and has an encoding
abbrev pub is_member : List (ℕ × ℕ) → ℕ → Bool
is_member ranges c = has_encoding c && in_ranges ranges c
