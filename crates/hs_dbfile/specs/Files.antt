-- The database file: the bytes of a list of entries. Numbers are written with their lowest byte first.
use Rattle.std.specs.Prelude.{◌≡◌, ℕ, ◌<◌, ◌≤◌, ◌^◌, List, [], ◌∷◌, ◌++◌, length, bit_and, codes}
use Rattle.std.specs.Int.{w16, w32, w64, to_le_bytes}
use Rattle.hs_base.specs.Lists.{Each}
use Rattle.hs_base.specs.Entries.{ListedEntry}

-- a text, behind its length in 16 bits
abbrev pub text_bytes : List ℕ → List ℕ
text_bytes text = to_le_bytes w16 (length text) ++ text

-- an entry: the identifier in 32 bits, the flags in 16, the bits of the parameters in 8, both bounds in 64, and the
-- text
abbrev pub entry_bytes : ListedEntry → List ℕ
entry_bytes entry =
    to_le_bytes w32 entry.id
    ++ (to_le_bytes w16 entry.flags
    ++ (entry.ext.bits ∷ (to_le_bytes w64 entry.ext.min_offset
    ++ (to_le_bytes w64 entry.ext.max_offset
    ++ text_bytes entry.text))))

-- entries, one behind the other
abbrev pub entries_bytes : List ListedEntry → List ℕ
entries_bytes [] = []
entries_bytes (entry ∷ entries) = entry_bytes entry ++ entries_bytes entries

-- the list encoding: how many entries there are in 32 bits, and the entries
abbrev pub list_bytes : List ListedEntry → List ℕ
list_bytes entries = to_le_bytes w32 (length entries) ++ entries_bytes entries

-- what every database file begins with: its name, and version 1 in 16 bits
abbrev pub head_bytes : List ℕ
head_bytes = codes "HSDB" ++ to_le_bytes w16 1

-- the database file: the head and the list encoding, and nothing behind it
abbrev pub file_bytes : List ListedEntry → List ℕ
file_bytes entries = head_bytes ++ list_bytes entries

-- The entry can be written: its flags are among the eleven that there are, its parameters among the five, a bound that
-- isn't given has the value that stands for that, and the length of the text has 16 bits.
pub record IsWritable (entry : ListedEntry) : Type 0 where
  pub known_flags : entry.flags < 2 ^ 11
  pub known_parameters : entry.ext.bits < 2 ^ 5
  pub no_min_offset : bit_and entry.ext.bits 1 ≡ 0 → entry.ext.min_offset ≡ 0
  pub no_max_offset : bit_and entry.ext.bits 2 ≡ 0 → entry.ext.max_offset ≡ 18446744073709551615
  pub short : length entry.text < 2 ^ 16

-- its numbers and its bytes have their widths
pub record IsWithinWidths (entry : ListedEntry) : Type 0 where
  pub identifier : entry.id < 2 ^ 32
  pub least : entry.ext.min_offset < 2 ^ 64
  pub greatest : entry.ext.max_offset < 2 ^ 64
  pub bytes : Each (λ b. b < 2 ^ 8) entry.text

-- the list can be written: so can each entry, and their number has 32 bits
pub record AreWritable (entries : List ListedEntry) : Type 0 where
  pub few : length entries < 2 ^ 32
  pub each : Each IsWritable entries

-- The list has an encoding: the number of its entries has 32 bits, and the length of each text 16.
pub record AreEncodable (entries : List ListedEntry) : Type 0 where
  pub few : length entries < 2 ^ 32
  pub short : Each (λ entry. length entry.text < 2 ^ 16) entries

-- The bytes are the database file of the entries.
pub record IsDatabaseFile (bytes : List ℕ) (entries : List ListedEntry) : Type 0 where
  pub writable : AreWritable entries
  pub widths : Each IsWithinWidths entries
  pub whole : bytes ≡ file_bytes entries

-- some database file begins with these bytes
pub record BeginsFile (bytes : List ℕ) : Type 0 where
  pub entries : List ListedEntry
  pub rest : List ℕ
  pub file : IsDatabaseFile (bytes ++ rest) entries

-- The bytes are no database file, and the longest beginning of them that begins some database file has this length.
pub record IsFormPlace (bytes : List ℕ) (at : ℕ) : Type 0 where
  pub no_file : (entries : List ListedEntry) → IsDatabaseFile bytes entries → ⊥
  pub front : List ℕ
  pub rest : List ℕ
  pub parts : bytes ≡ front ++ rest
  pub place : length front ≡ at
  pub begins : BeginsFile front
  pub longest : (longer behind : List ℕ) → bytes ≡ longer ++ behind → BeginsFile longer → length longer ≤ at
