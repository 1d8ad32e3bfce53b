-- What places add to the masks of those from them on. `rows p j` is what place p says of the place j behind it.
use Rattle.std.specs.Prelude.{ℕ, zero, suc, ◌+◌, ◌-◌, List, slice_index, nat_le, nat_lt, bit_or, if◌then◌else◌}
use Rattle.hs_fdr.specs.declared.tables.Tables.{Tables}
use Rattle.hs_fdr.specs.Masks.{mask_of, width_of}
use Rattle.hs_fdr.specs.Blocks.{super_character, super_at}

-- what a place says of the one k behind it: nothing from eight on
abbrev pub cell : (rows : ℕ → ℕ → ℕ) → (place k : ℕ) → ℕ
cell rows place k = if nat_lt k 8 then rows place k else 0

-- what the first n places say of place i
abbrev pub added : (rows : ℕ → ℕ → ℕ) → (n i : ℕ) → ℕ
added rows zero i = 0
added rows (suc n) i = bit_or (added rows n i) (if nat_le n i then cell rows n (i - n) else 0)

-- what `count` places from one on say of the place k behind the first of them
abbrev pub added_by : (rows : ℕ → ℕ → ℕ) → (place count k : ℕ) → ℕ
added_by rows place zero k = 0
added_by rows place (suc count) zero = cell rows place zero
added_by rows place (suc count) (suc k) = bit_or (cell rows place (suc k)) (added_by rows (place + 1) count k)

-- what the super-characters of some bytes say
abbrev pub rows_of : Tables → List ℕ → ℕ → ℕ → ℕ
rows_of tables bytes place j =
    mask_of tables j (super_character (width_of tables) (slice_index bytes place) (slice_index bytes (place + 1)))

-- what those of a text say that stands before the byte `next`
abbrev pub text_rows : Tables → List ℕ → (next : ℕ) → ℕ → ℕ → ℕ
text_rows tables text next place j = mask_of tables j (super_at (width_of tables) text next place)
