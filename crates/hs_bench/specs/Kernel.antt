-- The masks of a text, block by block.
use Rattle.std.specs.Prelude.{ℕ, ◌-◌, ◌*◌, List, bit_and, drop, fold, length, map, slice_get, slice_index, take}
use Rattle.std.specs.List.{range_with_len}
use Rattle.std.specs.Int.{div_ceil}
use Rattle.hs_fdr.specs.declared.tables.Tables.{Tables}
use Rattle.hs_fdr.specs.Masks.{mask_of, width_of}
use Rattle.hs_fdr.specs.Blocks.{block_masks}

-- the masks of the 64 places from one on
abbrev pub masks_from : Tables → List ℕ → ℕ → List ℕ
masks_from tables text from =
    let before = take from text in
    let rest = drop from text in
    block_masks (mask_of tables) (width_of tables) (drop (length before - 7) before) (take 64 rest)
    (slice_get rest 64)

-- the bits that are 1 in the first mask of every block
abbrev pub ones_of_first_masks : Tables → List ℕ → ℕ
ones_of_first_masks tables text =
    fold bit_and 255 (map (λ block. slice_index (masks_from tables text (block * 64)) 0)
    (range_with_len 0 (div_ceil (length text) 64)))
