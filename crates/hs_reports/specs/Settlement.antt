-- What a block settles of all identifiers: what is known of each, in rows of bits, and what the block tells.
use Rattle.std.specs.Prelude.{◌≡◌, ℕ, ◌^◌, ◌<◌, ◌≤◌, Bool, true, false, ◌||◌, ◌&&◌, List, ◌++◌, length}
use Rattle.std.specs.Prelude.{Some, slice_get}
use Rattle.hs_base.specs.Bits.{has_word_bit}
use Rattle.hs_base.specs.Patterns.{Pattern, is_single}
use Rattle.hs_base.specs.Told.{Pair, IsTold, IsNew}
use Rattle.hs_base.specs.Settling.{Kept, AreIdentifiers}
use Rattle.hs_reports.specs.declared.identifier.Identifier.{Identifier}
use Rattle.hs_reports.specs.declared.telling.Telling.{Telling}
use Rattle.hs_reports.specs.Chunks.{AreChunkEnds}
use Rattle.hs_reports.specs.EndTables.{EndTable, no_words, words_of, is_noted}
use Rattle.hs_reports.specs.Heard.{IsHeard}
use Rattle.hs_reports.specs.Identifiers.{numbers_of}
use Rattle.hs_reports.specs.Telling.{TellsWords, is_telling}
use Rattle.hs_reports.specs.Tellings.{TellingTable, with_telling, pairs_of_tellings}
use Rattle.hs_reports.specs.Terminals.{ends_by_words}
use Rattle.hs_reports.specs.WordBits.{word_bit}

-- what the bits tell of the identifier of that number
abbrev pub known_at : (told here : List ℕ) → ℕ → Kept
known_at told here p = record { told = has_word_bit told p; here = has_word_bit here p; last = false }

-- The bits tell what is known of each identifier behind the bytes u.
pub record AreKnown (P : List Pattern) (u : List ℕ) (identifiers : List Identifier) (told here : List ℕ) :
    Type 0 where
  pub single : (p : ℕ) (x : Identifier) → slice_get identifiers p ≡ Some x → is_single P x.id.0 ≡ x.single
  pub heard : (p : ℕ) (x : Identifier) → slice_get identifiers p ≡ Some x → IsHeard P u x.id.0 (known_at told here p)

-- an identifier of which a pair ends behind the last byte is noted
abbrev pub ArePending : (here : List ℕ) → EndTable → Type 0
ArePending here table = (p : ℕ) → has_word_bit here p ≡ true → is_noted table p ≡ true

-- and no other is
abbrev pub AreOnlyPending : (here : List ℕ) → EndTable → Type 0
AreOnlyPending here table =
    (p : ℕ) → p < length table.words → is_noted table p ≡ true → has_word_bit here p ≡ true

-- A single identifier of which a pair is told is spent: nothing more of it is reported, wherever its matches end.
abbrev pub is_spent : Identifier → (told : List ℕ) → (p : ℕ) → Bool
is_spent x told p = x.single && has_word_bit told p

-- The identifiers are those of the patterns, and the table has the ends of each about the bytes behind u, but for those
-- that are spent.
pub record AreBlockEnds (P : List Pattern) (u bytes : List ℕ) (identifiers : List Identifier) (told : List ℕ)
    (table : EndTable) : Type 0 where
  pub identifiers_are : AreIdentifiers P (numbers_of identifiers)
  pub ends : (p : ℕ) (x : Identifier) → slice_get identifiers p ≡ Some x → is_spent x told p ≡ false →
      AreChunkEnds P u bytes x.id.0 (ends_by_words (words_of table p).before (words_of table p).behind)
  pub within : (p i : ℕ) (x : Identifier) → slice_get identifiers p ≡ Some x → is_spent x told p ≡ false →
      length bytes ≤ i → i < 64 →
      (word_bit (words_of table p).before i ≡ false) × (word_bit (words_of table p).behind i ≡ false)

-- Whatever the patterns and the stream of which the table has the ends about a block of so many bytes: where the bits
-- tell what is known before the block, the new ones tell what is known behind it, and what is told are the new reports.
abbrev pub SettlesBlock : List Identifier → (count : ℕ) → EndTable → (told here told' here' : List ℕ) →
    TellingTable → Type 0
SettlesBlock identifiers count table told here told' here' tellings =
    (P : List Pattern) (u bytes : List ℕ) →
    length bytes ≡ count →
    AreBlockEnds P u bytes identifiers told table →
    AreKnown P u identifiers told here →
    ArePending here table →
    AreKnown P (u ++ bytes) identifiers told' here'
    × ((list : List Pair) → IsTold P u list → IsNew P u bytes (pairs_of_tellings tellings (length u) count))

-- The identifier of that number is settled by a block with that last byte: what it tells is put behind the others, its
-- bits are new, and it is noted no more unless a pair of it ends behind the block.
pub record SettlesOne (x : Identifier) (p last : ℕ) (table table' : EndTable) (told told' here here' : List ℕ)
    (tellings tellings' : TellingTable) : Type 0 where
  pub telling : Telling
  pub tells : TellsWords x.single (has_word_bit told p) (has_word_bit here p) (words_of table p).before
      (words_of table p).behind telling
  pub late_fits : telling.late < 2 ^ 64
  pub early_fits : telling.early < 2 ^ 64
  pub pushed : tellings' ≡ with_telling tellings x.id telling.late telling.early
  pub told_is : has_word_bit told' p
      ≡ (has_word_bit told p || (x.single && is_telling telling.late telling.early))
  pub here_is : has_word_bit here' p ≡ word_bit telling.early last
  pub noted_is : is_noted table' p ≡ word_bit telling.early last
  pub words_is : words_of table' p ≡ no_words
  pub words_count : length table'.words ≡ length table.words
  pub others : (q : ℕ) → (q ≡ p → ⊥) → (has_word_bit told' q ≡ has_word_bit told q)
      × (has_word_bit here' q ≡ has_word_bit here q)
      × (words_of table' q ≡ words_of table q)
      × (is_noted table' q ≡ is_noted table q)
