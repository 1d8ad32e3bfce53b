-- Pattern files: which list a file is, or which line is the first that isn't of the form.
use Rattle.std.specs.Prelude.{◌≡◌, ℕ, suc, List, [], ◌∷◌, ◌++◌, codes}
use Rattle.hs_text.specs.Lines.{Begins}
use Rattle.hs_base.specs.Entries.{ListedEntry}
use Rattle.hs_text.specs.EntryLines.{IsEntryLine}

-- the line says nothing: it is empty, or begins with `#`
pub data IsSkipped (line : List ℕ) : Type 0 where
  empty : line ≡ [] → IsSkipped line
  comment : (rest : List ℕ) → line ≡ codes "#" ++ rest → IsSkipped line

-- the line isn't of the form: it isn't skipped, and says no entry
pub record IsBad (line : List ℕ) : Type 0 where
  pub written : IsSkipped line → ⊥
  pub no_entry : (entry : ListedEntry) → IsEntryLine line entry → ⊥

-- The file is the list of these entries, in the order of its lines.
pub data IsList : List ℕ → List ListedEntry → Type 0 where
  nothing : IsList [] []
  skipped : {file line rest : List ℕ} {entries : List ListedEntry} →
      Begins line rest file → IsSkipped line → IsList rest entries → IsList file entries
  listed : {file line rest : List ℕ} {entry : ListedEntry} {entries : List ListedEntry} →
      Begins line rest file → IsEntryLine line entry → IsList rest entries → IsList file (entry ∷ entries)

-- The file's line of this number, counted from 1 over all lines, is the first that isn't of the form.
pub data HasBadLine : List ℕ → ℕ → Type 0 where
  first : {file line rest : List ℕ} →
      Begins line rest file → IsBad line → HasBadLine file 1
  behind_skipped : {file line rest : List ℕ} {number : ℕ} →
      Begins line rest file → IsSkipped line → HasBadLine rest number → HasBadLine file (suc number)
  behind_entry : {file line rest : List ℕ} {entry : ListedEntry} {number : ℕ} →
      Begins line rest file → IsEntryLine line entry → HasBadLine rest number → HasBadLine file (suc number)
