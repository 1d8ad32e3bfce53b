use Rattle.std.proofs.Common.{◌≡◌, ◌++◌, ℕ, List, map, drop}
use Rattle.sha2.specs.Hashers.{Holds256}
use Rattle.hs_base.specs.Entries.{listed}
use Rattle.hs_dbfile.specs.Files.{entries_bytes, list_bytes}
use Rattle.hs_dbfile.proofs.digesting.digest.Given as goal

abbrev pub invariant-loop-entry : goal.invariant-loop-entry
invariant-loop-entry l = (message : List ℕ) × Holds256 l.hasher message × (message ++ entries_bytes (map listed (drop l.entry-index l.entries)) ≡ list_bytes (map listed l.entries))
