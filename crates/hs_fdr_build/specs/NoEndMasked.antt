-- No literal end is masked out.
use Rattle.std.specs.Prelude.{◌≡◌, ℕ, ◌+◌, ◌<◌, List, ◌++◌, length, Option, All, slice_index}
use Rattle.std.specs.Int.{bit_at}
use Rattle.hs_base.specs.Literals.{LiteralByte}
use Rattle.hs_fdr.specs.declared.tables.Tables.{Tables}
use Rattle.hs_fdr.specs.Masks.{mask_of, width_of}
use Rattle.hs_fdr.specs.Blocks.{mask_at, block_masks}
use Rattle.hs_fdr_build.specs.Asking.{StandsIn, AreTablesOf}
use Rattle.hs_base.specs.LiteralEnds.{EndsAt}

-- The bit of a literal's bucket is 0 in the mask of each place at which the literal ends, whatever the byte behind the
-- text.
abbrev pub NoEndIsMasked : Type 0
NoEndIsMasked =
    (literals : List (List LiteralByte)) (buckets : List ℕ) (tables : Tables) → AreTablesOf literals buckets tables
    → (bucket : ℕ) (literal : List LiteralByte) → bucket < 8 → StandsIn literals buckets bucket literal
    → (text : List ℕ) (next place : ℕ) → All (λ b. b < 256) text → EndsAt literal text (place + 1)
    → bit_at (mask_at (mask_of tables) (width_of tables) text next place) bucket ≡ 0

-- The same of the masks of a block. The literal may begin before the bytes that stand before the block, and the text
-- may go on behind it.
abbrev pub NoEndIsMaskedInBlocks : Type 0
NoEndIsMaskedInBlocks =
    (literals : List (List LiteralByte)) (buckets : List ℕ) (tables : Tables) → AreTablesOf literals buckets tables
    → (bucket : ℕ) (literal : List LiteralByte) → bucket < 8 → StandsIn literals buckets bucket literal
    → (earlier before block later : List ℕ) (next : Option ℕ) (i : ℕ) → All (λ b. b < 256) (before ++ block)
    → i < 64 → i < length block →
    EndsAt literal (earlier ++ (before ++ (block ++ later))) (length earlier + (length before + (i + 1)))
    → bit_at (slice_index (block_masks (mask_of tables) (width_of tables) before block next) i) bucket ≡ 0
