-- The masks of a block of a text. A mask has a bit for each bucket of literals; where it is 0 the bucket may have a
-- literal that ends at the place.
use Rattle.std.specs.Prelude.{ℕ, ◌+◌, ◌-◌, ◌*◌, ◌%◌, ◌^◌, List, [], ◌∷◌, ◌++◌, length, map, Option, Some, None}
use Rattle.std.specs.Prelude.{slice_index, nat_le, nat_lt, bit_or, if◌then◌else◌}
use Rattle.std.specs.List.{slice_index_or, range_with_len}

-- a byte, and above it the low bits of the byte behind it
abbrev pub super_character : (width byte after : ℕ) → ℕ
super_character width byte after = byte + 256 * (after % 2 ^ (width - 8))

-- the super-character at a place of a text that stands before the byte `next`
abbrev pub super_at : (width : ℕ) → List ℕ → (next place : ℕ) → ℕ
super_at width text next place = super_character width (slice_index text place) (slice_index_or text (place + 1) next)

-- the bitwise OR of all
abbrev pub or_all : List ℕ → ℕ
or_all [] = 0
or_all (x ∷ xs) = bit_or x (or_all xs)

-- what the super-character j before a place says of it: 0 where that is before the text
abbrev pub term : (mask : ℕ → ℕ → ℕ) (width : ℕ) → List ℕ → (next place j : ℕ) → ℕ
term mask width text next place j = if nat_le j place then mask j (super_at width text next (place - j)) else 0

-- what the super-characters of the place and of the seven before it say of it
unfoldable pub mask_at : (mask : ℕ → ℕ → ℕ) (width : ℕ) → List ℕ → (next place : ℕ) → ℕ
mask_at mask width text next place = or_all (map (term mask width text next place) (range_with_len 0 8))

-- the byte, or 0 for none
abbrev pub byte_or_zero : Option ℕ → ℕ
byte_or_zero None = 0
byte_or_zero (Some b) = b

-- the mask of each of 64 places of a block behind the bytes before it, FF from the block's end on
unfoldable pub block_masks : (mask : ℕ → ℕ → ℕ) (width : ℕ) → (before block : List ℕ) → Option ℕ → List ℕ
block_masks mask width before block next =
    map (λ i. if nat_lt i (length block) then mask_at mask width (before ++ block) (byte_or_zero next)
    (length before + i) else 255) (range_with_len 0 64)
