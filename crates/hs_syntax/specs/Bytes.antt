-- Bytes that are read from left to right, and tests of one of them.
use Rattle.std.specs.Prelude.{ℕ, ◌+◌, Bool, false, ◌==◌, ◌||◌, ◌&&◌, nat_le, Option, Some, None, if◌then◌else◌, List}
use Rattle.std.specs.Prelude.{[], ◌∷◌, codes}
use Rattle.std.specs.Char.{is_ascii_lowercase}
use Rattle.hs_base.specs.Assertions.{is_word_byte}
use Prim.Native.String.{String}

abbrev pub is_among : ℕ → List ℕ → Bool
is_among b [] = false
is_among b (c ∷ []) = b == c
is_among b (c ∷ d ∷ rest) = b == c || is_among b (d ∷ rest)

-- the byte is one of these
infix 60 ◌∈◌
abbrev pub ◌∈◌ : ℕ → String → Bool
b ∈ s = is_among b (codes s)

-- there is a byte, and it is one of these
abbrev pub is_one_of : String → Option ℕ → Bool
is_one_of s None = false
is_one_of s (Some b) = b ∈ s

-- this byte is there
abbrev pub is_byte : ℕ → Option ℕ → Bool
is_byte b None = false
is_byte b (Some c) = c == b

-- one of `0` to `9` is there
abbrev pub is_digit : Option ℕ → Bool
is_digit None = false
is_digit (Some b) = nat_le 48 b && nat_le b 57

-- how many small letters the bytes begin with, behind so many
abbrev pub letters_on : ℕ → List ℕ → ℕ
letters_on count [] = count
letters_on count (b ∷ bytes) = if is_ascii_lowercase b then letters_on (count + 1) bytes else count

-- how many word bytes the bytes begin with, behind so many
abbrev pub word_bytes_on : ℕ → List ℕ → ℕ
word_bytes_on count [] = count
word_bytes_on count (b ∷ bytes) = if is_word_byte b then word_bytes_on (count + 1) bytes else count

-- the first place of the byte, behind so many others
abbrev pub place_on : ℕ → ℕ → List ℕ → Option ℕ
place_on byte count [] = None
place_on byte count (b ∷ bytes) = if b == byte then Some count else place_on byte (count + 1) bytes
