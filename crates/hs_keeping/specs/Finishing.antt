-- Which pairs only the end of a stream decides.
use Rattle.std.specs.Prelude.{ℕ, ◌+◌, ◌*◌, Bool, List, slice_index_or, false}
use Rattle.hs_base.specs.Bits.{has_bit, has_word_bit}
use Rattle.hs_base.specs.Regions.{last_at}
use Rattle.hs_base.specs.Settling.{Kept, tells_end}
use Rattle.hs_layout.specs.Layouts.{Laid}
use Rattle.hs_reports.specs.EndTables.{EndTable, words_of}
use Rattle.hs_reports.specs.WordBits.{word_bit}
use Rattle.hs_reports.specs.declared.identifier.Identifier.{Identifier}

-- what the region and the rows say of the identifier of that number
abbrev pub kept_at : Laid → (region told here : List ℕ) → ℕ → Kept
kept_at l region told here p = record {
  told = has_word_bit told p;
  here = has_word_bit here p;
  last = has_bit region (8 * last_at l.singles l.identifiers + p);
}

-- only the end decides the pair of the identifier that ends with the stream
abbrev pub is_due : Laid → (region told here : List ℕ) → (finals : EndTable) → Identifier → ℕ → Bool
is_due l region told here finals x p =
    tells_end x.single (kept_at l region told here p) (word_bit (words_of finals p).before 0)

abbrev pub no_identifier : Identifier
no_identifier = record { id = record { 0 = 0 }; single = false }

-- and so of that number in a list
abbrev pub due_at_end : Laid → (region told here : List ℕ) → (finals : EndTable) → List Identifier → ℕ → Bool
due_at_end l region told here finals identifiers p =
    is_due l region told here finals (slice_index_or identifiers p no_identifier) p
