-- What the answers of the compiler say.
use Rattle.std.specs.Prelude.{◌≡◌, suc, ◌<◌, ◌≤◌, List, ◌∷◌, [], ◌++◌, length, map, Option, Some, None}
use Rattle.std.specs.declared.alloc.Global.{Global}
use Rattle.std.specs.declared.vec.Vec.{Vec}
use Rattle.hs_base.specs.declared.ext.Entry.{Entry}
use Rattle.hs_base.specs.declared.ext.Ext.{Ext}
use Rattle.hs_base.specs.declared.flags.Flags.{Flags}
use Rattle.hs_base.specs.declared.refusal.Refusal.{Refusal}
use Rattle.hs_base.specs.Chains.{Piece, chains_of}
use Rattle.hs_base.specs.Entries.{ListedEntry, listed}
use Rattle.hs_base.specs.Lists.{Each}
use Rattle.hs_base.specs.Patterns.{Pattern}
use Rattle.hs_base.specs.Refusals.{number_of}
use Rattle.hs_base.specs.Regions.{Plan}
use Rattle.hs_base.specs.Trees.{Tree}
use Rattle.hs_kept.specs.declared.builder.PackingBuilder.{PackingBuilder}
use Rattle.hs_kept.specs.Builders.{IsPackedTo}
use Rattle.hs_pieces.specs.declared.piece.Chain.{Chain}
use Rattle.hs_rose.specs.declared.builder.Builder.{Builder}
use Rattle.hs_rose.specs.Building.{IsBuilt}
use Rattle.hs_rose.specs.Listing.{asked_of, listed_chains, plain_chains}
use Rattle.hs_rose.specs.Plans.{IsFitPattern}
use Rattle.hs_rose.specs.Runnable.{AreRunnable}
use Rattle.hs_support.specs.Refused.{HasRefusal as HasTreeRefusal}
use Rattle.hs_compile.specs.declared.fault.CompileFault.{CompileFault}
use Rattle.hs_compile.specs.declared.fault.CompileFault.TheVariants.{Refused, Memory}
use Rattle.hs_compile.specs.declared.counts.Counts.{Counts}
use Rattle.hs_compile.specs.Counting.{AreCounts, IsSmall}
use Rattle.hs_compile.specs.Databases.{Compiled, IsDatabaseOf}
use Rattle.hs_compile.specs.Lists.{greatest_count, IsAcceptedAs, AreAcceptedAs, IsRefusalOf, IsFirstRefusal}
use Rattle.hs_compile.specs.Sizes.{IsPlanOf}

-- The list is accepted, and the database is that of the plan of its patterns.
pub record IsCompiled (entries : List ListedEntry) (database : Compiled) : Type 0 where
  pub patterns : List Pattern
  pub accepted : AreAcceptedAs entries patterns
  pub plan : Plan
  pub is_plan : IsPlanOf patterns plan
  pub runs : IsDatabaseOf database plan

-- Why a list isn't compiled: its first refusal, or no memory.
abbrev pub IsCauseOf : List ListedEntry → CompileFault → Type 0
IsCauseOf entries (Refused number id refusal) = IsFirstRefusal entries number id refusal
IsCauseOf entries Memory = Unit {0}

-- each of the refusals of a tree has a number above those that are asked before the list's size
abbrev pub IsLate : Flags → Ext → Tree → Type 0
IsLate flags ext tree = (refusal : Refusal) → HasTreeRefusal flags ext tree refusal → 12 ≤ number_of refusal

-- The entries are accepted as these patterns, and those are the chains of their expressions, which can be run by
-- pieces.
pub record AreSplit (entries : List ListedEntry) (P : List Pattern) (chains : List (List (List Piece))) : Type 0 where
  pub accepted : AreAcceptedAs entries P
  pub chains_are : chains ≡ map (λ x. chains_of x.tree) P
  pub runnable : Each AreRunnable chains
  pub fit : Each IsFitPattern P
  pub few : length entries ≤ greatest_count
  pub small : IsSmall P

-- So it is with some patterns, and their program and packing are built.
pub record IsListBuilt (entries : List Entry) (builder : Builder) (packing : PackingBuilder) : Type 0 where
  pub patterns : List Pattern
  pub chains : List (List (List Piece))
  pub split : AreSplit (map listed entries) patterns chains
  pub built : IsBuilt builder (listed_chains (map asked_of entries) chains) []
  pub packed : IsPackedTo packing chains

-- The entry behind these, which are those patterns, is accepted, and that is the number of its bytes.
pub record IsCompiledEntry (before : List ListedEntry) (P : List Pattern) (entry : ListedEntry)
    (chains : Vec Chain Global) (counts : Counts) : Type 0 where
  pub pattern : Pattern
  pub accepted : IsAcceptedAs before entry pattern
  pub chains_are : plain_chains chains ≡ chains_of pattern.tree
  pub runnable : AreRunnable (plain_chains chains)
  pub fit : IsFitPattern pattern
  pub counted : AreCounts (P ++ pattern ∷ []) counts
  pub small : IsSmall (P ++ pattern ∷ [])

-- Why the entry behind these isn't compiled: its refusal, or no memory.
abbrev pub IsEntryCause : (before : List ListedEntry) → ListedEntry → CompileFault → Type 0
IsEntryCause before entry (Refused number id refusal) =
    (number ≡ suc (length before)) × (id.0 ≡ entry.id) × IsRefusalOf before entry refusal
IsEntryCause before entry Memory = Unit {0}

-- the one of two refusals that has the lesser number, the first where they have the same
pub data IsLesser (refusal : Refusal) : Option Refusal → Refusal → Type 0 where
  alone : IsLesser refusal None refusal
  first : {other : Refusal} → number_of refusal ≤ number_of other → IsLesser refusal (Some other) refusal
  second : {other : Refusal} → number_of other < number_of refusal → IsLesser refusal (Some other) other
