-- Where matches of many engines may begin in a chunk, as contracts see it.
use Rattle.std.specs.Prelude.{ℕ, ◌/◌, ◌%◌, Bool, false, nat_le, if◌then◌else◌, List, [], slice_index, slice_index_or}
use Rattle.hs_bits.specs.WordBits.{word_bit}
use Rattle.hs_waking.specs.declared.starts.Starts.{Starts}

-- of so many engines the words of the blocks, where there is one that isn't 0; from the count on all bits are set
abbrev pub told_word : (count : ℕ) (some : List Bool) (places : List (List ℕ)) (number block : ℕ) → ℕ
told_word count some places k j =
    if nat_le count k then 18446744073709551615
    else (if slice_index_or some k false then slice_index (slice_index_or places k []) j else 0)

-- the word of a block of the chunk, for the engine of that number
unfoldable pub start_word : Starts → (number block : ℕ) → ℕ
start_word s k j = told_word s.count s.some.items s.places.items k j

-- whether a match of it may begin at that place
abbrev pub starts_at : Starts → (number place : ℕ) → Bool
starts_at s k p = word_bit (start_word s k (p / 64)) (p % 64)
