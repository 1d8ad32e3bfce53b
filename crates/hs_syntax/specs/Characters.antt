-- Characters: single bytes, or in UTF-8 code points, each by its encoding (The Unicode Standard, "Unicode Encoding
-- Forms").
use Rattle.std.specs.Prelude.{ℕ, ◌&&◌, ◌||◌, Bool, nat_le, nat_lt, Option, Some, None, if◌then◌else◌, List, length}
use Rattle.std.specs.Prelude.{take, slice_get}
use Rattle.std.specs.Int.{is_in_range}
use Rattle.std.specs.Option.{option_map}
use Rattle.std.specs.Str.{chars, is_utf8}
use Rattle.std.specs.Str.Lossy.{utf8_valid_len}

-- the code is that of a character: of a byte, or in UTF-8 of a code point that is no surrogate
abbrev pub is_code : (utf8 : Bool) → ℕ → Bool
is_code utf8 code = if utf8 then nat_le code 0xD7FF || is_in_range 0xE000 0x10FFFF code else nat_le code 0xFF

-- the byte isn't ASCII
abbrev pub is_beyond_ascii : ℕ → Bool
is_beyond_ascii b = nat_le 0x80 b

-- how many bytes an encoding has that begins with the byte
abbrev pub encoding_length : ℕ → ℕ
encoding_length b = if nat_le b 0x7F then 1 else if nat_le b 0xDF then 2 else if nat_le b 0xEF then 3 else 4

-- the character that so many bytes at the front encode, and their number
abbrev pub encoded : List ℕ → ℕ → Option (ℕ × ℕ)
encoded bytes n =
    if nat_le n (length bytes) && is_utf8 (take n bytes)
    then option_map (λ code. (code, n)) (slice_get (chars (take n bytes)) 0)
    else None

-- The character that the bytes begin with, of which this is the first: its code, and how many bytes it has. There is
-- none where they begin no well-formed encoding.
abbrev pub character_of : (utf8 : Bool) → List ℕ → ℕ → Option (ℕ × ℕ)
character_of utf8 bytes b = if utf8 && is_beyond_ascii b then encoded bytes (encoding_length b) else Some (b, 1)

-- the place of the first byte that begins no character, where there is one
abbrev pub ill_formed_of : (utf8 : Bool) → List ℕ → Option ℕ
ill_formed_of utf8 bytes =
    if utf8 && nat_lt (utf8_valid_len bytes) (length bytes) then Some (utf8_valid_len bytes) else None
