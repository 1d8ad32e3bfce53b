-- A list that was loaded.
use Rattle.std.specs.Prelude.{◌≡◌, ℕ, ◌≤◌, List, length, map}
use Rattle.sha2.specs.Sha256.{sha256}
use Rattle.hs_base.specs.Entries.{ListedEntry, listed}
use Rattle.hs_base.specs.Patterns.{Pattern}
use Rattle.hs_outside.specs.Store.{Told, IsFile}
use Rattle.hs_base.specs.Regions.{Plan}
use Rattle.hs_compile.specs.Databases.{IsDatabaseOf, digest_of}
use Rattle.hs_compile.specs.Sizes.{IsPlanOf}
use Rattle.hs_dbfile.specs.Files.{list_bytes}
use Rattle.hs_lists.specs.ListKinds.{ListKind}
use Rattle.hs_lists.specs.Accepting.{IsAccepted}
use Rattle.hs_lists.specs.Endings.{greatest_list}
use Rattle.hs_lists.specs.declared.loading.Loaded.{Loaded}

-- the digest by which the list is known: SHA-256 (FIPS 180-4) of its encoding
abbrev pub list_digest : List ListedEntry → List ℕ
list_digest entries = sha256 (list_bytes entries)

-- the entries that are kept, as plain data
abbrev pub entries_of : Loaded → List ListedEntry
entries_of loaded = map listed loaded.entries.items

-- The file of the list is there, not too long, and accepted, and these are its entries and the database of the plan of
-- its patterns.
pub record IsLoaded (kind : ListKind) (told : Told) (loaded : Loaded) : Type 0 where
  pub bytes : List ℕ
  pub file : IsFile told bytes
  pub within : length bytes ≤ greatest_list
  pub patterns : List Pattern
  pub accepted : IsAccepted kind bytes (entries_of loaded) patterns
  pub plan : Plan
  pub is_plan : IsPlanOf patterns plan
  pub runs : IsDatabaseOf loaded.database plan
  pub digest : digest_of loaded.database ≡ list_digest (entries_of loaded)
