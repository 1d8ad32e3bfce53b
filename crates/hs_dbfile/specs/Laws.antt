-- What holds of all bytes.
use Rattle.std.specs.Prelude.{◌≡◌, ℕ, List}
use Rattle.hs_base.specs.Entries.{ListedEntry}
use Rattle.hs_dbfile.specs.Files.{IsDatabaseFile, IsFormPlace}

-- Bytes are the database file of at most one list.
abbrev pub IsFileOnce : Type 0
IsFileOnce =
    (bytes : List ℕ) (xs ys : List ListedEntry) →
    IsDatabaseFile bytes xs →
    IsDatabaseFile bytes ys →
    xs ≡ ys

-- No bytes are a database file and have a place where they stop being one.
abbrev pub NeverFileAndPlace : Type 0
NeverFileAndPlace =
    (bytes : List ℕ) (entries : List ListedEntry) (at : ℕ) →
    IsDatabaseFile bytes entries →
    IsFormPlace bytes at →
    ⊥

-- Bytes stop being a database file at one place at most.
abbrev pub IsPlaceOnce : Type 0
IsPlaceOnce = (bytes : List ℕ) (m n : ℕ) → IsFormPlace bytes m → IsFormPlace bytes n → m ≡ n
