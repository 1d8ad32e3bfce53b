-- What the values of the reader stand for.
use Rattle.std.specs.Prelude.{◌≡◌, ℕ, List, [], ◌∷◌, ◌++◌, map, Result, IfOk}
use Rattle.std.specs.declared.alloc.AllocError.{AllocError}
use Rattle.hs_base.specs.declared.ext.Entry.{Entry}
use Rattle.hs_text.specs.declared.fault.ListFault.{ListFault}
use Rattle.hs_text.specs.declared.fault.ListFault.TheVariants as fault
use Rattle.hs_text.specs.declared.line.Line.{Line}
use Rattle.hs_text.specs.declared.line.Line.TheVariants as line
use Rattle.hs_text.specs.declared.line.EntryParts.{EntryParts}
use Rattle.hs_base.specs.Entries.{ListedEntry, listed}
use Rattle.hs_text.specs.EntryLines.{IsEntryLine}
use Rattle.hs_text.specs.PatternFile.{IsSkipped, HasBadLine}

-- the entry that parts of a line say
abbrev pub listed_parts : EntryParts → ListedEntry
listed_parts parts = record { id = parts.id.0; flags = parts.flags.0; ext = parts.ext; text = parts.text.now }

-- the line says this
abbrev pub IsReadAs : List ℕ → Line → Type 0
IsReadAs text line.Skipped = IsSkipped text
IsReadAs text (line.Entry parts) = IsEntryLine text (listed_parts parts)

-- the entries with that of a line, if it has one
abbrev pub AddsEntry : Line → List Entry → List Entry → Type 0
AddsEntry line.Skipped before after = map listed after ≡ map listed before
AddsEntry (line.Entry parts) before after = map listed after ≡ map listed before ++ listed_parts parts ∷ []

-- the entry that is kept is that of the parts
abbrev pub IsEntryOf : Result Entry AllocError → EntryParts → Type 0
IsEntryOf result parts = IfOk result (λ entry. listed entry ≡ listed_parts parts)

-- Why a file gave no list: its first bad line, or no memory.
abbrev pub IsListFault : List ℕ → ListFault → Type 0
IsListFault file (fault.Line number) = HasBadLine file number
IsListFault file fault.Memory = Unit {0}
