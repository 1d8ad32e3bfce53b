-- What the values of the reader stand for.
use Rattle.std.specs.Prelude.{ℕ, List, ◌∷◌, ◌++◌, length}
use Rattle.std.specs.Int.{w16, w32, w64, to_le_bytes}
use Rattle.hs_base.specs.Entries.{ListedEntry}
use Rattle.hs_dbfile.specs.declared.parts.EntryParts.{EntryParts}
use Rattle.hs_dbfile.specs.declared.fault.DecodeFault.{DecodeFault}
use Rattle.hs_dbfile.specs.declared.fault.DecodeFault.TheVariants as fault
use Rattle.hs_dbfile.specs.Files.{IsWritable, IsWithinWidths, IsFormPlace}

-- the entry that parts are
abbrev pub listed_parts : EntryParts → ListedEntry
listed_parts parts = record { id = parts.id.0; flags = parts.flags.0; ext = parts.ext; text = parts.text.now }

-- the entry can be written, and its numbers have their widths
pub record IsEntry (entry : ListedEntry) : Type 0 where
  pub writable : IsWritable entry
  pub widths : IsWithinWidths entry

-- Why bytes gave no list: they aren't a database file, or no memory.
abbrev pub IsFaultOf : List ℕ → DecodeFault → Type 0
IsFaultOf bytes (fault.Form at) = IsFormPlace bytes at
IsFaultOf bytes fault.Memory = Unit {0}

-- the bytes of an entry before its text
abbrev pub fields_bytes : ListedEntry → List ℕ
fields_bytes entry =
    to_le_bytes w32 entry.id
    ++ (to_le_bytes w16 entry.flags
    ++ (entry.ext.bits ∷ (to_le_bytes w64 entry.ext.min_offset
    ++ (to_le_bytes w64 entry.ext.max_offset
    ++ to_le_bytes w16 (length entry.text)))))
