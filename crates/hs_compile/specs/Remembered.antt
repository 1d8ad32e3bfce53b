-- What is kept of the entries before one.
use Rattle.std.specs.Prelude.{◌≡◌, ℕ, suc, Bool, List, [], length, map, Some}
use Rattle.std.specs.List.{AllZip}
use Rattle.std.specs.Ordering.{nat_cmp}
use Rattle.std.specs.BTreeMap.{get}
use Rattle.hs_base.specs.Chains.{Piece}
use Rattle.hs_base.specs.declared.ext.Entry.{Entry}
use Rattle.hs_base.specs.Entries.{ListedEntry, listed}
use Rattle.hs_base.specs.Lists.{OneOf, Each}
use Rattle.hs_base.specs.Patterns.{Pattern}
use Rattle.hs_kept.specs.declared.builder.PackingBuilder.{PackingBuilder}
use Rattle.hs_kept.specs.Builders.{IsPackedTo}
use Rattle.hs_rose.specs.declared.builder.Builder.{Builder}
use Rattle.hs_rose.specs.Building.{IsBuilt}
use Rattle.hs_rose.specs.Listing.{asked_of, listed_chains}
use Rattle.hs_compile.specs.declared.counts.Counts.{Counts}
use Rattle.hs_compile.specs.declared.seen.Seen.{Seen}
use Rattle.hs_compile.specs.Answers.{AreSplit}
use Rattle.hs_compile.specs.Counting.{AreCounts, IsSmall}
use Rattle.hs_compile.specs.Lists.{asks_single, IsReadAs}

-- what is kept of an identifier
abbrev pub IsKept : Seen → (id : ℕ) → (single : Bool) → Type 0
IsKept seen id single = get nat_cmp seen.singles id ≡ Some single

-- the entry is of the identifier, and asks for a single report, or doesn't
pub record Asks (id : ℕ) (single : Bool) (entry : ListedEntry) : Type 0 where
  pub named : entry.id ≡ id
  pub asked : asks_single entry.flags ≡ single

-- Of each entry it is kept whether it asks for a single report, and of no other identifier anything.
pub record Remembers (before : List ListedEntry) (seen : Seen) : Type 0 where
  pub all : Each (λ entry. IsKept seen entry.id (asks_single entry.flags)) before
  pub only : (id : ℕ) (single : Bool) → IsKept seen id single → OneOf (Asks id single) before

-- The entry of that number, counted from 1, comes behind these entries, which are read as those patterns, and that is
-- kept and counted of them.
pub record Precede (before : List ListedEntry) (P : List Pattern) (number : ℕ) (seen : Seen) (counts : Counts) :
    Type 0 where
  pub count : number ≡ suc (length before)
  pub kept : Remembers before seen
  pub read : AllZip IsReadAs before P
  pub counts_are : AreCounts P counts
  pub small : IsSmall P

-- What is known of the entries so far: they are accepted as some patterns, and that is kept and counted of them.
pub record AreSoFar (entries : List ListedEntry) (chains : List (List (List Piece))) (seen : Seen) (counts : Counts) :
    Type 0 where
  pub patterns : List Pattern
  pub split : AreSplit entries patterns chains
  pub kept : Remembers entries seen
  pub read : AllZip IsReadAs entries patterns
  pub counts_are : AreCounts patterns counts

-- That is known of the entries so far, and their program and packing are built.
pub record AreAdded (entries : List Entry) (seen : Seen) (counts : Counts) (builder : Builder)
    (packing : PackingBuilder) : Type 0 where
  pub chains : List (List (List Piece))
  pub far : AreSoFar (map listed entries) chains seen counts
  pub built : IsBuilt builder (listed_chains (map asked_of entries) chains) []
  pub packed : IsPackedTo packing chains
