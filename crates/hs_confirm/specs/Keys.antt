-- The key of a literal, and of a text up to an offset: so many of the last bytes, without the case of letters. Where a
-- literal ends, both have one key.
use Rattle.std.specs.Prelude.{◌≡◌, ℕ, ◌+◌, ◌*◌, ◌-◌, ◌/◌, ◌%◌, ◌^◌, ◌<◌, bit_and, bit_or, nat_lt, List, [], ◌∷◌, length}
use Rattle.std.specs.Prelude.{map, slice_index, if◌then◌else◌}
use Rattle.std.specs.Int.{from_le_bytes, w64}
use Rattle.hs_base.specs.Literals.{LiteralByte}

-- a byte with the bit set that a small letter has and its capital hasn't
abbrev pub folded : ℕ → ℕ
folded b = bit_or b 32

-- the folded byte so many places before the last one of a literal, or 0 where there is none
unfoldable pub literal_place : List LiteralByte → ℕ → ℕ
literal_place literal back =
    if nat_lt back (length literal) then folded (slice_index (map (λ x. x.byte) literal) (length literal - 1 - back))
    else 0

-- the folded byte so many places before the last one in front of an offset of a text, or 0 where there is none
unfoldable pub text_place : List ℕ → (offset back : ℕ) → ℕ
text_place text offset back = if nat_lt back offset then folded (slice_index text (offset - 1 - back)) else 0

-- eight places as one number, the last byte the lowest
abbrev pub eight_places : (ℕ → ℕ) → ℕ
eight_places place =
    from_le_bytes w64 (place 0 ∷ place 1 ∷ place 2 ∷ place 3 ∷ place 4 ∷ place 5 ∷ place 6 ∷ place 7 ∷ [])

-- the last eight bytes of a literal
unfoldable pub full_literal_key : List LiteralByte → ℕ
full_literal_key literal = eight_places (literal_place literal)

-- the last eight bytes of a text up to an offset
unfoldable pub full_text_key : List ℕ → (offset : ℕ) → ℕ
full_text_key text offset = eight_places (text_place text offset)

-- the last bytes of eight, as many as the width
unfoldable pub key_at : (width full : ℕ) → ℕ
key_at width full = full % 2 ^ (8 * width)

-- the key of a literal
abbrev pub literal_key : (width : ℕ) → List LiteralByte → ℕ
literal_key width literal = key_at width (full_literal_key literal)

-- the key of a text up to an offset
abbrev pub text_key : (width : ℕ) → List ℕ → ℕ → ℕ
text_key width text offset = key_at width (full_text_key text offset)

-- the bits that count at a width
abbrev pub IsMask : (width mask : ℕ) → Type 0
IsMask width mask = (full : ℕ) → full < 2 ^ 64 → bit_and full mask ≡ key_at width full

-- the same of each bucket
abbrev pub AreMasks : (widths masks : List ℕ) → Type 0
AreMasks widths masks = (bucket : ℕ) → bucket < 8 → IsMask (slice_index widths bucket) (slice_index masks bucket)

-- in which of so many rows the literals of a bucket and a key stand
abbrev pub key_row : (rows bucket key : ℕ) → ℕ
key_row rows bucket key = bit_and (key * 11400714819323198485 % 2 ^ 64 / 2 ^ 40 + bucket) (rows - 1)
