-- Tables as contracts see them: a width, and a mask for each place and super-character.
use Rattle.std.specs.Prelude.{ℕ, ◌+◌, ◌*◌, List, slice_index, nat_lt, if◌then◌else◌}
use Rattle.hs_fdr.specs.declared.tables.Tables.{Tables}
use Rattle.hs_fdr.specs.Lanes.{HasLanes}

-- the width of a super-character, in bits
abbrev pub width_of : Tables → ℕ
width_of tables = tables.width

-- the mask of a super-character v for the place j behind it
abbrev pub mask_of : Tables → ℕ → ℕ → ℕ
mask_of tables j v = slice_index tables.rows.items (8 * v + j)

-- the eight masks of a super-character, and then zeros
abbrev pub IsRow : Tables → ℕ → List ℕ → Type 0
IsRow tables v lanes = HasLanes lanes (λ k. if nat_lt k 8 then mask_of tables k v else 0)
