-- A set of bytes as contracts see it.
use Rattle.std.specs.Prelude.{ℕ, ◌-◌, ◌/◌, ◌%◌, Bool, ◌==◌, ◌&&◌, ◌||◌, nat_le, List, slice_index, map, filter}
use Rattle.std.specs.List.{range_with_len}
use Rattle.std.specs.Int.{bit_at}
use Rattle.hs_base.specs.declared.byte_set.ByteSet.{ByteSet}

-- whether a byte is a member
unfoldable pub has : ByteSet → ℕ → Bool
has s b = bit_at (slice_index s.words (b / 64)) (b % 64) == 1

-- at each byte, whether it is a member
unfoldable pub members : ByteSet → List Bool
members s = map (has s) (range_with_len 0 256)

-- the members from a byte on, rising
unfoldable pub members_from : ByteSet → ℕ → List ℕ
members_from s n = filter (has s) (range_with_len n (256 - n))

-- the set of the bytes that pass a test, as `members` gives it
abbrev pub bytes_where : (ℕ → Bool) → List Bool
bytes_where test = map test (range_with_len 0 256)

-- one of `0` to `9`
abbrev pub is_digit : ℕ → Bool
is_digit b = nat_le 48 b && nat_le b 57

-- one of the blanks from 09 to 0D, or the space
abbrev pub is_space : ℕ → Bool
is_space b = (nat_le 9 b && nat_le b 13) || (b == 32)
