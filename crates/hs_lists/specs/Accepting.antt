-- Which files hold a list that is accepted, and how the others are refused.
use Rattle.std.specs.Prelude.{ℕ, List, Some, None}
use Rattle.hs_base.specs.declared.entry.ExprId.{ExprId}
use Rattle.hs_base.specs.declared.refusal.Refusal.{Refusal}
use Rattle.hs_base.specs.declared.refusal.Refusal.TheVariants.{ListLine}
use Rattle.hs_base.specs.Entries.{ListedEntry}
use Rattle.hs_base.specs.Patterns.{Pattern}
use Rattle.hs_text.specs.PatternFile.{IsList, HasBadLine}
use Rattle.hs_dbfile.specs.Files.{IsDatabaseFile, IsFormPlace}
use Rattle.hs_compile.specs.Lists.{AreAcceptedAs, IsFirstRefusal}
use Rattle.hs_lists.specs.ListKinds.{ListKind, pattern_file, database_file}
use Rattle.hs_lists.specs.Causes.{Cause, refused, form, memory}

-- the file holds the list of these entries
abbrev pub HoldsList : ListKind → List ℕ → List ListedEntry → Type 0
HoldsList pattern_file file entries = IsList file entries
HoldsList database_file file entries = IsDatabaseFile file entries

-- The file isn't of the form: by its first bad line, or by the place where its bytes stop to be a database file.
pub data HasBadForm (file : List ℕ) : ListKind → Cause → Type 0 where
  bad_line : {line : ℕ} → HasBadLine file line → HasBadForm file pattern_file (refused None (ListLine line))
  bad_bytes : {at : ℕ} → IsFormPlace file at → HasBadForm file database_file (form at)

-- The file holds a list of expressions, which are accepted as these patterns.
pub record IsAccepted (kind : ListKind) (file : List ℕ) (entries : List ListedEntry) (P : List Pattern) : Type 0 where
  pub list : HoldsList kind file entries
  pub accepted : AreAcceptedAs entries P

-- The file is refused: it isn't of the form, or, where it holds a list, by the first of its entries that has a refusal,
-- of which the number is counted from 1.
pub data IsRefused (kind : ListKind) (file : List ℕ) : Cause → Type 0 where
  bad_form : {cause : Cause} → HasBadForm file kind cause → IsRefused kind file cause
  bad_entry : {entries : List ListedEntry} {number : ℕ} {id : ExprId} {refusal : Refusal} →
      HoldsList kind file entries → IsFirstRefusal entries number id refusal →
      IsRefused kind file (refused (Some (number, id)) refusal)

-- why a file gives no entries: its form, or no memory
pub data IsFormCause (kind : ListKind) (file : List ℕ) : Cause → Type 0 where
  formless : {cause : Cause} → HasBadForm file kind cause → IsFormCause kind file cause
  unread : IsFormCause kind file memory

-- why entries give no database: the first of them that has a refusal, or no memory
pub data IsEntryCause (entries : List ListedEntry) : Cause → Type 0 where
  first : {number : ℕ} {id : ExprId} {refusal : Refusal} → IsFirstRefusal entries number id refusal →
      IsEntryCause entries (refused (Some (number, id)) refusal)
  uncompiled : IsEntryCause entries memory
