-- Literals that need no run in a chunk though the pieces before them are left in it.
use Rattle.std.specs.Prelude.{◌≡◌, ◌⊎◌, ℕ, ◌+◌, ◌<◌, ◌≤◌, false, List, Some, slice_get}
use Rattle.hs_base.specs.Bits.{has_word_bit}
use Rattle.hs_nodes.specs.Hits.{is_hit_at}
use Rattle.hs_nodes.specs.Left.{nowhere}
use Rattle.hs_nodes.specs.declared.ends.ChunkEnds.{ChunkEnds}
use Rattle.hs_nodes.specs.declared.hits.ChunkHits.{ChunkHits}
use Rattle.hs_nodes.specs.declared.table.NodeKind.{NodeKind}
use Rattle.hs_nodes.specs.declared.table.NodeKind.TheVariants.{Engine, Literal, FirstLiteral, LookBack}

-- The ends tell of none of the last so many bytes of a chunk: the pieces are left before none of these. So no literal
-- of so many bytes that was entered in the chunk goes on behind it.
abbrev pub AreQuiet : (last count : ℕ) → ChunkEnds → Type 0
AreQuiet last count ends = (i : ℕ) → i < count → count ≤ i + last → has_word_bit ends.before i ≡ false

-- the literal of that number ends nowhere in a chunk
abbrev pub IsUnhit : (number : ℕ) → (hits : List ChunkHits) → Type 0
IsUnhit number hits = (own : ChunkHits) → slice_get hits number ≡ Some own → (i : ℕ) → is_hit_at own i ≡ false

-- the literal of a node of that kind is one of so many, if it stands behind other pieces
abbrev pub IsLiteralThere : (literals : ℕ) → NodeKind → Type 0
IsLiteralThere literals (Engine number null) = Unit {0}
IsLiteralThere literals (Literal number len) = number < literals
IsLiteralThere literals (FirstLiteral number len) = Unit {0}
IsLiteralThere literals (LookBack pair) = Unit {0}

-- A node of that kind in which nothing is live needs no run in a chunk of so many bytes, where the pieces before it are
-- left as the ends tell: it is a literal that ends nowhere in the chunk, and was entered before none of its last bytes.
abbrev pub IsSpared : NodeKind → (hits : List ChunkHits) → (count : ℕ) → (enters : ChunkEnds) → Type 0
IsSpared (Engine number null) hits count enters = ⊥
IsSpared (Literal number len) hits count enters = AreQuiet len count enters × IsUnhit number hits
IsSpared (FirstLiteral number len) hits count enters = ⊥
IsSpared (LookBack pair) hits count enters = ⊥

-- Either that, or they are left nowhere.
abbrev pub IsUntouched : NodeKind → (hits : List ChunkHits) → (count : ℕ) → (enters : ChunkEnds) → Type 0
IsUntouched kind hits count enters = (enters ≡ nowhere) ⊎ IsSpared kind hits count enters
