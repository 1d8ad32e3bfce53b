-- The words of a chunk: for each set of a table the places of its bytes, a bit for each.
use Rattle.std.specs.Prelude.{◌≡◌, ℕ, ◌+◌, ◌*◌, ◌<◌, Bool, true, ◌||◌, nat_le, List, length, Option, slice_get}
use Rattle.std.specs.Prelude.{slice_index}
use Rattle.hs_base.specs.declared.byte_set.ByteSet.{ByteSet}
use Rattle.hs_base.specs.Bits.{has_word_bit}
use Rattle.hs_engine.specs.Automata.{in_set}
use Rattle.hs_waking.specs.declared.class_words.ClassWords.{ClassWords}

-- the byte of that place is in the set, or the bytes end before it
abbrev pub is_open_at : Option ByteSet → (bytes : List ℕ) → ℕ → Bool
is_open_at set bytes p = nat_le (length bytes) p || in_set set (slice_index bytes p)

-- the words of the set of that number are known
abbrev pub is_known : ClassWords → ℕ → Bool
is_known w k = has_word_bit w.known.items k

-- the bit of that place in the words of the set of that number
abbrev pub has_place : ClassWords → (number place : ℕ) → Bool
has_place w k p = has_word_bit w.words.items (576 * k + p)

-- The words that are known are those of the sets of this table in this chunk.
abbrev pub AreOfChunk : ClassWords → (sets : List ByteSet) (bytes : List ℕ) → Type 0
AreOfChunk w sets bytes =
    (k : ℕ) →
    is_known w k ≡ true →
    (p : ℕ) → p < 576 → has_place w k p ≡ is_open_at (slice_get sets k) bytes p
