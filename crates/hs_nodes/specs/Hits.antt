-- Where a literal ends in a chunk, and what is kept of it.
use Rattle.std.specs.Prelude.{◌≡◌, ◌↔◌, ℕ, zero, suc, ◌+◌, ◌/◌, ◌%◌, ◌<◌, ◌≤◌, Bool, true, false, List, [], ◌∷◌, ◌++◌}
use Rattle.std.specs.Prelude.{length, slice_index}
use Rattle.hs_base.specs.Chains.{Piece, lit, IsFitChain}
use Rattle.hs_base.specs.Lists.{Each}
use Rattle.hs_base.specs.LiteralEnds.{EndsAt}
use Rattle.hs_base.specs.Literals.{LiteralByte}
use Rattle.hs_base.specs.Trees.{Tree}
use Rattle.hs_base.specs.Bits.{has_bit}
use Rattle.hs_base.specs.LiteralRows.{TellsEntries}
use Rattle.hs_block.specs.LiteralBlocks.{TellsCarried, turned}
use Rattle.hs_bits.specs.WordBits.{word_bit, count_below}
use Rattle.hs_nodes.specs.Left.{AreLeftIn}
use Rattle.hs_nodes.specs.Pieces.{IsHeldBy, IsRunOver}
use Rattle.hs_nodes.specs.declared.ends.ChunkEnds.{ChunkEnds}
use Rattle.hs_nodes.specs.declared.hits.ChunkHits.{ChunkHits}

-- the literal ends behind so many bytes of the chunk
abbrev pub is_hit_at : ChunkHits → ℕ → Bool
is_hit_at hits zero = hits.at_start
is_hit_at hits (suc i) = word_bit (slice_index hits.behind (i / 64)) (i % 64)

-- how often the literal ends in a chunk of so many bytes: at its beginning, or behind a byte of it
abbrev pub hit_count : ChunkHits → (count : ℕ) → ℕ
hit_count hits count = count_below (suc count) (is_hit_at hits)

-- it ends nowhere
abbrev pub no_hits : ChunkHits
no_hits = record { at_start = false; behind = [] }

-- The hits tell where the literal ends in a chunk behind u.
abbrev pub AreChunkHits : ChunkHits → List LiteralByte → (u bytes : List ℕ) → Type 0
AreChunkHits hits literal u bytes =
    (i : ℕ) → i ≤ length bytes → (is_hit_at hits i ≡ true) ↔ EndsAt literal (u ++ bytes) (length u + i)

-- The word tells of the entries of a literal of so many bytes.
abbrev pub CarriesEntries : (len carry : ℕ) → Tree → (u : List ℕ) (entered : List Bool) → Type 0
CarriesEntries len carry tree u entered = TellsCarried len carry u entered

-- The word may stand at that offset: it tells of no entry before the stream's first byte.
abbrev pub IsCarryAt : (len carry at : ℕ) → Type 0
IsCarryAt len carry at = (k : ℕ) → at ≤ k → turned len (word_bit carry) k ≡ false

-- the bytes tell of the entries of a literal of so many bytes
abbrev pub KeepsEntries : (len : ℕ) (part : List ℕ) → Tree → (u : List ℕ) (entered : List Bool) → Type 0
KeepsEntries len part tree u entered = TellsEntries len (has_bit part) u entered

-- A literal of so many bytes takes a chunk, where `enters` tell where the pieces before it are left, and `hits` where
-- it ends: the word of its entries goes from the old one to the new one, and the ends tell where the pieces up to it
-- are left.
abbrev pub TakesLiteral : (len old new : ℕ) (bytes : List ℕ) (hits : ChunkHits) (enters ends : ChunkEnds) → Type 0
TakesLiteral len old new bytes hits enters ends =
    (pieces rest : List Piece) (literal : List LiteralByte) (u : List ℕ) →
    IsFitChain (pieces ++ lit literal ∷ rest) →
    length literal ≡ len →
    Each (λ b. b < 256) (u ++ bytes) →
    AreChunkHits hits literal u bytes →
    AreLeftIn pieces u bytes enters →
    IsHeldBy (CarriesEntries len old) pieces (lit literal) u →
    IsRunOver (CarriesEntries len new) pieces (lit literal) u bytes ends

-- The same of bytes that tell of its entries.
abbrev pub TakesLiteralPart : (len : ℕ) (old new bytes : List ℕ) (hits : ChunkHits) (enters ends : ChunkEnds) → Type 0
TakesLiteralPart len old new bytes hits enters ends =
    (pieces rest : List Piece) (literal : List LiteralByte) (u : List ℕ) →
    IsFitChain (pieces ++ lit literal ∷ rest) →
    length literal ≡ len →
    Each (λ b. b < 256) (u ++ bytes) →
    AreChunkHits hits literal u bytes →
    AreLeftIn pieces u bytes enters →
    IsHeldBy (KeepsEntries len old) pieces (lit literal) u →
    IsRunOver (KeepsEntries len new) pieces (lit literal) u bytes ends
