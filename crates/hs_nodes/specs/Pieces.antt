-- What is said of a piece behind others over a chunk of bytes.
use Rattle.std.specs.Prelude.{◌≡◌, ◌↔◌, ℕ, ◌+◌, ◌<◌, Bool, true, List, [], ◌∷◌, ◌++◌, length, take, slice_index}
use Rattle.hs_base.specs.declared.context.Next.TheVariants as after
use Rattle.hs_base.specs.declared.context.Prev.{Prev}
use Rattle.hs_base.specs.Chains.{Piece, piece_tree, IsFitChain}
use Rattle.hs_base.specs.Contexts.{class_of}
use Rattle.hs_base.specs.Leaving.{AreEntered, IsEmptyAt}
use Rattle.hs_base.specs.Trees.{Tree}
use Rattle.hs_bits.specs.WordBits.{word_bit}
use Rattle.hs_engine.specs.Engines.{Meaning}
use Rattle.hs_nodes.specs.Blocks.{EndsBehind, block, front}
use Rattle.hs_nodes.specs.Left.{AreLeftIn}
use Rattle.hs_nodes.specs.declared.ends.ChunkEnds.{ChunkEnds}

-- The words tell where an expression has the empty span in a block behind u: before each byte, where that comes next,
-- and behind each byte, where nothing is known of what comes next.
pub record AreEmpty (tree : Tree) (u bytes : List ℕ) (before behind : ℕ) : Type 0 where
  pub before_is : (i : ℕ) → i < length bytes →
      (word_bit before i ≡ true) ↔ IsEmptyAt tree (u ++ take i bytes) (class_of (slice_index bytes i))
  pub behind_is : (i : ℕ) → i < length bytes →
      (word_bit behind i ≡ true) ↔ IsEmptyAt tree (u ++ take (i + 1) bytes) after.Unknown

-- The words tell it of those places alone at which other words have a bit.
pub record AreEmptyAt (tree : Tree) (u bytes : List ℕ) (asked asked_behind before behind : ℕ) : Type 0 where
  pub before_is : (i : ℕ) → i < length bytes → word_bit asked i ≡ true →
      (word_bit before i ≡ true) ↔ IsEmptyAt tree (u ++ take i bytes) (class_of (slice_index bytes i))
  pub behind_is : (i : ℕ) → i < length bytes → word_bit asked_behind i ≡ true →
      (word_bit behind i ≡ true) ↔ IsEmptyAt tree (u ++ take (i + 1) bytes) after.Unknown

-- The ends tell it of each block of a chunk behind u, at those places alone at which `enters` have a bit.
pub record AreEmptyIn (tree : Tree) (u bytes : List ℕ) (enters ends : ChunkEnds) : Type 0 where
  pub each : (j : ℕ) → j < 8 → AreEmptyAt tree (front u bytes j) (block bytes j) (slice_index enters.before j)
      (slice_index enters.behind j) (slice_index ends.before j) (slice_index ends.behind j)

-- What is kept of a piece behind others is its field: it was entered where those were left.
pub record IsHeldBy (Field : Tree → List ℕ → List Bool → Type 0) (pieces : List Piece) (piece : Piece) (u : List ℕ) :
    Type 0 where
  pub entered : List Bool
  pub are : AreEntered pieces u entered
  pub field : Field (piece_tree piece) u entered

-- a region of an engine is the field of the piece
abbrev pub IsHeld : Meaning → List Piece → Piece → (region u : List ℕ) → Type 0
IsHeld m pieces piece region u = IsHeldBy (m.field region) pieces piece u

-- What a chunk leads to: the field of the piece behind it, and where the pieces up to it are left in it.
pub record IsRunOver (Field : Tree → List ℕ → List Bool → Type 0) (pieces : List Piece) (piece : Piece)
    (u bytes : List ℕ) (ends : ChunkEnds) : Type 0 where
  pub held : IsHeldBy Field pieces piece (u ++ bytes)
  pub left : AreLeftIn (pieces ++ piece ∷ []) u bytes ends

-- The engine takes a chunk for any piece that it runs, where `enters` tell where the pieces before it are left, and
-- `null` where it has the empty span there: its region goes from the old one to the new one, and the ends tell where
-- the pieces up to it are left.
abbrev pub TakesChunk : Meaning → (old new : List ℕ) (prev : Prev) (at : ℕ) (bytes : List ℕ)
    (enters null ends : ChunkEnds) → Type 0
TakesChunk m old new prev at bytes enters null ends =
    (pieces rest : List Piece) (piece : Piece) (u : List ℕ) →
    IsFitChain (pieces ++ piece ∷ rest) →
    m.is_for (piece_tree piece) →
    EndsBehind u prev at →
    AreEmptyIn (piece_tree piece) u bytes enters null →
    AreLeftIn pieces u bytes enters →
    IsHeld m pieces piece old u →
    IsRunOver (m.field new) pieces piece u bytes ends
