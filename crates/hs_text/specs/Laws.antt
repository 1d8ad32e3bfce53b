-- What holds of every file.
use Rattle.std.specs.Prelude.{◌≡◌, ℕ, List}
use Rattle.hs_base.specs.Entries.{ListedEntry}
use Rattle.hs_base.specs.Lists.{Each}
use Rattle.hs_text.specs.PatternFile.{IsList, HasBadLine}
use Rattle.hs_text.specs.Known.{IsKnown}

-- A file is a list in at most one way.
abbrev pub IsListOnce : Type 0
IsListOnce = (file : List ℕ) (xs ys : List ListedEntry) → IsList file xs → IsList file ys → xs ≡ ys

-- A file has at most one first bad line.
abbrev pub IsBadOnce : Type 0
IsBadOnce = (file : List ℕ) (m n : ℕ) → HasBadLine file m → HasBadLine file n → m ≡ n

-- No file is a list and has a bad line.
abbrev pub NeverListAndBadLine : Type 0
NeverListAndBadLine =
    (file : List ℕ) (entries : List ListedEntry) (number : ℕ) →
    IsList file entries →
    HasBadLine file number →
    ⊥

-- Every file is one of them: none is no list and has no bad line.
abbrev pub NeverNeither : Type 0
NeverNeither =
    (file : List ℕ) →
    ((entries : List ListedEntry) → IsList file entries → ⊥) →
    ((number : ℕ) → HasBadLine file number → ⊥) →
    ⊥

-- The entries of a file have flags and parameters that are known, and missing bounds at their missing values.
abbrev pub HasKnownEntries : Type 0
HasKnownEntries = (file : List ℕ) (entries : List ListedEntry) → IsList file entries → Each IsKnown entries
