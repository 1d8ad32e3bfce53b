-- What holds of the reports of bytes in a row, for every list of patterns and every stream.
use Rattle.std.specs.Prelude.{◌≡◌, ◌↔◌, ℕ, ◌<◌, Bool, true, false, List, [], ◌∷◌, ◌++◌, length}
use Rattle.std.specs.Prelude.{◌*◌, take, drop}
use Rattle.hs_base.specs.Patterns.{Pattern, is_single}
use Rattle.hs_base.specs.Told.{Pair, IsTold, IsNew}
use Rattle.hs_base.specs.Settling.{Kept, IsLeftToEnd, IsKept, Ends, settled}
use Rattle.hs_reports.specs.Heard.{IsHeard, AreSureEnds, IsFinal, IsToldBy}
use Rattle.hs_reports.specs.Chunks.{kept_behind, pairs_of_chunk, AreChunkEnds, AreChunkOf, pairs_of_blocks}

-- What is kept of an identifier is what is known of it, and its pair that only the end would decide.
abbrev pub KeptIsHeard : Type 0
KeptIsHeard =
    (P : List Pattern) (u : List ℕ) (id : ℕ) (kept : Kept) →
    IsKept P u id kept ↔ (IsHeard P u id kept × ((kept.last ≡ true) ↔ IsLeftToEnd P u id))

-- What is known of an identifier and its ends about a byte tell what the byte newly gives, and what is known then.
abbrev pub ByteTells : Type 0
ByteTells =
    (P : List Pattern) (u : List ℕ) (b id : ℕ) (kept : Kept) (ends : Ends) →
    IsHeard P u id kept →
    AreSureEnds P u b id ends →
    IsToldBy P u b id (is_single P id) kept ends

-- They tell too what the byte leaves to the end, if it is known where matches end before a line feed that is the last
-- byte. What was left to the end before plays no part.
abbrev pub ByteLeavesToEnd : Type 0
ByteLeavesToEnd =
    (P : List Pattern) (u : List ℕ) (b id : ℕ) (kept : Kept) (ends : Ends) →
    IsHeard P u id kept →
    AreSureEnds P u b id ends →
    IsFinal P u b id ends →
    ((settled (is_single P id) kept ends).last ≡ true) ↔ IsLeftToEnd P (u ++ b ∷ []) id

-- What the concerned identifiers tell, byte by byte, are the new reports.
abbrev pub ChunkIsNew : Type 0
ChunkIsNew =
    (P : List Pattern) (u bytes ids : List ℕ) (single : ℕ → Bool) (old : ℕ → Kept) (ends : ℕ → ℕ → Ends)
    (told : List Pair) →
    AreChunkOf P u bytes ids single old ends →
    IsTold P u told →
    IsNew P u bytes (pairs_of_chunk ids single old ends (length u) (length bytes))

-- What is known of an identifier behind the last byte goes by its ends about each.
abbrev pub ChunkIsHeard : Type 0
ChunkIsHeard =
    (P : List Pattern) (u bytes : List ℕ) (id : ℕ) (kept : Kept) (ends : ℕ → Ends) →
    IsHeard P u id kept →
    AreChunkEnds P u bytes id ends →
    IsHeard P (u ++ bytes) id (kept_behind (is_single P id) kept ends (length bytes))

-- Of an identifier without an end about bytes, of which there is one at least, is known what was, but that no pair of
-- it ends behind the last byte.
abbrev pub ChunkStaysHeard : Type 0
ChunkStaysHeard =
    (P : List Pattern) (u bytes : List ℕ) (id : ℕ) (kept : Kept) (ends : ℕ → Ends) →
    0 < length bytes →
    IsHeard P u id kept →
    AreChunkEnds P u bytes id ends →
    ((i : ℕ) → i < length bytes → ((ends i).before ≡ false) × ((ends i).behind ≡ false)) →
    IsHeard P (u ++ bytes) id (record kept { here = false })

-- The new reports of blocks of one size in a row are those of each in turn.
abbrev pub BlocksAreNew : Type 0
BlocksAreNew =
    (P : List Pattern) (u bytes : List ℕ) (size n : ℕ) (pairs : ℕ → List Pair) (told : List Pair) →
    IsTold P u told →
    ((j : ℕ) → j < n → IsNew P (u ++ take (size * j) bytes) (take size (drop (size * j) bytes)) (pairs j)) →
    IsNew P u (take (size * n) bytes) (pairs_of_blocks pairs n)
