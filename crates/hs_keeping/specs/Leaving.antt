-- What a line feed that is the last byte of a write leaves to the end.
use Rattle.std.specs.Prelude.{◌≡◌, ℕ, List, Some, slice_get}
use Rattle.hs_base.specs.Bits.{has_word_bit}
use Rattle.hs_reports.specs.EndTables.{EndTable, words_of}
use Rattle.hs_reports.specs.Telling.{leaves_to_end}
use Rattle.hs_reports.specs.WordBits.{word_bit}
use Rattle.hs_reports.specs.declared.identifier.Identifier.{Identifier}

-- The row tells which identifiers a line feed leaves to the end: by what is known before it, by the ends about it, and
-- by the ends before it were it the last byte.
abbrev pub AreLeftByLineFeed : List Identifier → (told here : List ℕ) (table finals : EndTable) (last : List ℕ) → Type 0
AreLeftByLineFeed identifiers told here table finals last =
    (p : ℕ) (x : Identifier) →
    slice_get identifiers p ≡ Some x →
    has_word_bit last p
    ≡ leaves_to_end x.single (has_word_bit told p) (has_word_bit here p) (word_bit (words_of table p).before 0)
    (word_bit (words_of table p).behind 0) (word_bit (words_of finals p).before 0)
