-- Where matches of each identifier end in a block, as a table of words.
use Rattle.std.specs.Prelude.{◌≡◌, ℕ, ◌+◌, ◌^◌, ◌<◌, Bool, true, false, ◌||◌, ◌==◌, List, length, if◌then◌else◌}
use Rattle.std.specs.Prelude.{slice_index_or}
use Rattle.std.specs.Int.Bits.{bit_or}
use Rattle.std.specs.List.{list_any}
use Rattle.hs_base.specs.Bits.{has_word_bit, word_count}
use Rattle.hs_reports.specs.declared.end_words.EndWords.{EndWords}
use Rattle.hs_reports.specs.declared.terminal.Terminal.{Terminal}
use Rattle.hs_reports.specs.Terminals.{is_end_at}
use Rattle.hs_reports.specs.WordBits.{word_bit}

-- no match ends
abbrev pub no_words : EndWords
no_words = record { before = 0; behind = 0 }

-- these ends more
abbrev pub united : EndWords → (before behind : ℕ) → EndWords
united words before behind =
    record { before = bit_or words.before before; behind = bit_or words.behind behind }

abbrev pub no_terminal : Terminal
no_terminal = record { identifier = 0; node = 0; least = 0; greatest = 0 }

-- the identifier of the terminal of that number
abbrev pub identifier_at : List Terminal → ℕ → ℕ
identifier_at terminals k = (slice_index_or terminals k no_terminal).identifier

-- the words of each identifier, and a bit for each that is noted
pub record EndTable : Type 0 where
  pub words : List EndWords
  pub noted : List ℕ

abbrev pub end_table : List EndWords → List ℕ → EndTable
end_table words noted = record { words = words; noted = noted }

-- the words of the identifier of that number
abbrev pub words_of : EndTable → ℕ → EndWords
words_of table p = slice_index_or table.words p no_words

-- the identifier of that number is noted
abbrev pub is_noted : EndTable → ℕ → Bool
is_noted table p = has_word_bit table.noted p

-- no identifier has an end
abbrev pub HasNoEnds : EndTable → Type 0
HasNoEnds table = (p : ℕ) → words_of table p ≡ no_words

-- an identifier that isn't noted has no end
abbrev pub IsQuiet : EndTable → Type 0
IsQuiet table = (p : ℕ) → is_noted table p ≡ false → words_of table p ≡ no_words

-- There is a bit for each identifier, and one that isn't noted has no end.
pub record IsEndTable (table : EndTable) : Type 0 where
  pub count : length table.noted ≡ word_count (length table.words)
  pub few : length table.words < 2 ^ 32
  pub quiet : IsQuiet table

-- the table has so many identifiers, none of which is noted
pub record IsBlank (table : EndTable) (count : ℕ) : Type 0 where
  pub count_is : length table.words ≡ count
  pub words : HasNoEnds table
  pub noted : (p : ℕ) → is_noted table p ≡ false

-- The ends that such terminals give by these words of their node are added, and no identifier is forgotten.
pub record AddsEnds (old new : EndTable) (terminals : List Terminal) (at before behind : ℕ) : Type 0 where
  pub count : length new.words ≡ length old.words
  pub before_is : (p i : ℕ) → i < 64 → word_bit (words_of new p).before i
      ≡ (word_bit (words_of old p).before i || list_any (is_end_at (λ node. before) p (at + i) i) terminals)
  pub behind_is : (p i : ℕ) → i < 64 → word_bit (words_of new p).behind i
      ≡ (word_bit (words_of old p).behind i || list_any (is_end_at (λ node. behind) p (at + i + 1) i) terminals)
  pub noted : (p : ℕ) → is_noted old p ≡ true → is_noted new p ≡ true

-- Those identifiers more are noted whose bit is set in a row.
pub record NotesRow (old new : EndTable) (row : List ℕ) : Type 0 where
  pub words : new.words ≡ old.words
  pub noted : (p : ℕ) → is_noted new p ≡ (has_word_bit row p || is_noted old p)

-- One identifier has these ends more, and is noted.
pub record Unites (old new : EndTable) (place before behind : ℕ) : Type 0 where
  pub count : length new.words ≡ length old.words
  pub words : (p : ℕ) → words_of new p
      ≡ (if p == place then united (words_of old p) before behind else words_of old p)
  pub noted : (p : ℕ) → is_noted new p ≡ ((p == place) || is_noted old p)

-- One identifier has no end any more, and is noted or not.
pub record Resets (old new : EndTable) (place : ℕ) (stays : Bool) : Type 0 where
  pub count : length new.words ≡ length old.words
  pub words : (p : ℕ) → words_of new p ≡ (if p == place then no_words else words_of old p)
  pub noted : (p : ℕ) → is_noted new p ≡ (if p == place then stays else is_noted old p)
