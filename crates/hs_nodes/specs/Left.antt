-- Where pieces are left in the blocks of a chunk, by words.
use Rattle.std.specs.Prelude.{ℕ, ◌+◌, ◌<◌, List, [], ◌∷◌, ◌++◌, length, take}
use Rattle.std.specs.Prelude.{slice_index}
use Rattle.hs_base.specs.declared.context.Next.TheVariants as after
use Rattle.hs_base.specs.Chains.{Piece}
use Rattle.hs_base.specs.Contexts.{class_of}
use Rattle.hs_base.specs.Leaving.{LeavesAt}
use Rattle.hs_bits.specs.WordBits.{Marks}
use Rattle.hs_nodes.specs.Blocks.{block, front}
use Rattle.hs_nodes.specs.declared.ends.ChunkEnds.{ChunkEnds}

-- The words tell where the pieces are left in a block behind u: before each byte, where that comes next, and behind
-- each byte, where nothing is known of what comes next.
pub record AreLeft (pieces : List Piece) (u bytes : List ℕ) (before behind : ℕ) : Type 0 where
  pub before_is : Marks (length bytes) before
      (λ i. LeavesAt pieces (u ++ take i bytes) (class_of (slice_index bytes i)))
  pub behind_is : Marks (length bytes) behind (λ i. LeavesAt pieces (u ++ take (i + 1) bytes) after.Unknown)

-- The ends tell it of each block of a chunk behind u.
pub record AreLeftIn (pieces : List Piece) (u bytes : List ℕ) (ends : ChunkEnds) : Type 0 where
  pub each : (j : ℕ) → j < 8 →
      AreLeft pieces (front u bytes j) (block bytes j) (slice_index ends.before j) (slice_index ends.behind j)

-- nowhere in eight blocks
abbrev pub nowhere_words : List ℕ
nowhere_words = 0 ∷ 0 ∷ 0 ∷ 0 ∷ 0 ∷ 0 ∷ 0 ∷ 0 ∷ []

abbrev pub nowhere : ChunkEnds
nowhere = record { before = nowhere_words; behind = nowhere_words }
