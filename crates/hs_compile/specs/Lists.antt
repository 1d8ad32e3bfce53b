-- Which lists of expressions are accepted, as which patterns, and how the others are refused.
use Rattle.std.specs.Prelude.{◌≡◌, ◌==◌, ℕ, suc, ◌<◌, ◌≤◌, Bool, not, List, [], ◌∷◌, ◌++◌, length, bit_and}
use Rattle.std.specs.List.{AllZip}
use Rattle.hs_base.specs.declared.entry.ExprId.{ExprId}
use Rattle.hs_base.specs.declared.flags.Flags.{Flags}
use Rattle.hs_base.specs.declared.refusal.Refusal.{Refusal}
use Rattle.hs_base.specs.declared.refusal.Refusal.TheVariants.{CountLimit, StateLimit, MixedSingle}
use Rattle.hs_base.specs.Entries.{ListedEntry, flags_of}
use Rattle.hs_base.specs.Lists.{OneOf}
use Rattle.hs_base.specs.Trees.{Tree}
use Rattle.hs_base.specs.Patterns.{Pattern}
use Rattle.hs_parse.specs.Grammar.{Reads}
use Rattle.hs_parse.specs.Faults.{Fault}
use Rattle.hs_utf8.specs.Lowered.{IsLowered}
use Rattle.hs_support.specs.Refused.{HasFlagsFault, HasRefusal as HasTreeRefusal, IsLeast}
use Rattle.hs_compile.specs.Sizes.{greatest_size, IsSizeOf}

-- the most entries of a list
abbrev pub greatest_count : ℕ
greatest_count = 65536

-- whether the flag SINGLEMATCH is among the flags
abbrev pub asks_single : ℕ → Bool
asks_single flags = bit_and flags 8 == 8

-- The text is read as an expression under the flags, and the tree is that expression in bytes.
pub record IsReadTree (text : List ℕ) (flags : Flags) (tree : Tree) : Type 0 where
  pub expression : Tree
  pub read : Reads text flags expression
  pub lowered : IsLowered expression tree

-- the pattern of an entry whose expression is read as the tree
abbrev pub pattern_of : ListedEntry → Tree → Pattern
pattern_of entry tree = record {
  id = entry.id;
  single = asks_single entry.flags;
  least = entry.ext.min_offset;
  greatest = entry.ext.max_offset;
  tree = tree;
}

-- The earlier entry is of the same identifier, and a single report is asked for by one of the two alone.
pub record Differs (entry earlier : ListedEntry) : Type 0 where
  pub named : earlier.id ≡ entry.id
  pub otherwise : asks_single earlier.flags ≡ not (asks_single entry.flags)

-- an entry before it differs so
abbrev pub IsMixed : (before : List ListedEntry) → ListedEntry → Type 0
IsMixed before entry = OneOf (Differs entry) before

-- The entry is refused where it stands, behind these.
pub data HasPlaceFault (before : List ListedEntry) (entry : ListedEntry) : Refusal → Type 0 where
  -- its number, counted from 1, is above the greatest
  beyond : greatest_count < suc (length before) → HasPlaceFault before entry CountLimit
  -- an entry before it differs in whether its identifier is to be reported at most once
  mixed : IsMixed before entry → HasPlaceFault before entry (MixedSingle (record { 0 = entry.id }))

-- The expression of the entry is read, and the pattern is its own.
pub record IsReadAs (entry : ListedEntry) (x : Pattern) : Type 0 where
  pub read : IsReadTree entry.text (flags_of entry) x.tree
  pub is : x ≡ pattern_of entry x.tree

-- With the entry, which is read, the region of the list has so many bytes, which are too many; without it they aren't.
pub record PassesSize (before : List ListedEntry) (entry : ListedEntry) (bytes : ℕ) : Type 0 where
  pub patterns : List Pattern
  pub all_read : AllZip IsReadAs before patterns
  pub pattern : Pattern
  pub read : IsReadAs entry pattern
  pub bytes_before : ℕ
  pub size_before : IsSizeOf patterns bytes_before
  pub within : bytes_before ≤ greatest_size
  pub size : IsSizeOf (patterns ++ pattern ∷ []) bytes
  pub beyond : greatest_size < bytes

-- The entry behind these has the refusal.
pub data HasRefusal (before : List ListedEntry) (entry : ListedEntry) : Refusal → Type 0 where
  -- its expression isn't read
  unread : {refusal : Refusal} → Fault entry.text (flags_of entry) refusal → HasRefusal before entry refusal
  -- a flag or a parameter isn't supported
  unsupported : {refusal : Refusal} → HasFlagsFault (flags_of entry) entry.ext refusal → HasRefusal before entry refusal
  -- its tree in bytes isn't supported, with these flags and parameters
  unfit : {refusal : Refusal} (tree : Tree) →
      IsReadTree entry.text (flags_of entry) tree →
      HasTreeRefusal (flags_of entry) entry.ext tree refusal →
      HasRefusal before entry refusal
  -- the region of the list becomes too large by it
  oversized : {bytes : ℕ} → PassesSize before entry bytes → HasRefusal before entry (StateLimit bytes)
  -- where it stands
  misplaced : {refusal : Refusal} → HasPlaceFault before entry refusal → HasRefusal before entry refusal

-- Of the refusals of the entry it is the one of least number.
abbrev pub IsRefusalOf : (before : List ListedEntry) → ListedEntry → Refusal → Type 0
IsRefusalOf before entry refusal = IsLeast (HasRefusal before entry) refusal

-- The entry has no refusal, its expression is read, and the pattern is its own.
pub record IsAcceptedAs (before : List ListedEntry) (entry : ListedEntry) (x : Pattern) : Type 0 where
  pub read : IsReadTree entry.text (flags_of entry) x.tree
  pub is : x ≡ pattern_of entry x.tree
  pub free : (refusal : Refusal) → HasRefusal before entry refusal → ⊥

-- So it is with each of the entries behind these, in order.
abbrev pub AreAcceptedFrom : (before : List ListedEntry) → List ListedEntry → List Pattern → Type 0
AreAcceptedFrom before [] [] = Unit {0}
AreAcceptedFrom before [] (x ∷ P) = ⊥
AreAcceptedFrom before (entry ∷ entries) [] = ⊥
AreAcceptedFrom before (entry ∷ entries) (x ∷ P) =
    IsAcceptedAs before entry x × AreAcceptedFrom (before ++ entry ∷ []) entries P

-- The list is accepted as these patterns.
abbrev pub AreAcceptedAs : List ListedEntry → List Pattern → Type 0
AreAcceptedAs entries P = AreAcceptedFrom [] entries P

-- Among the entries behind these, the first that is refused has that number, counted from 1 over all, and that
-- identifier and refusal.
pub data IsFirstRefusalFrom :
    (before : List ListedEntry) → List ListedEntry → (number : ℕ) → (id : ExprId) → Refusal → Type 0 where
  here : {before : List ListedEntry} {entry : ListedEntry} {entries : List ListedEntry} {refusal : Refusal} →
      IsRefusalOf before entry refusal →
      IsFirstRefusalFrom before (entry ∷ entries) (suc (length before)) (record { 0 = entry.id }) refusal
  behind :
      {before : List ListedEntry} {number : ℕ} {entry : ListedEntry} {entries : List ListedEntry} {id : ExprId}
      {refusal : Refusal} (x : Pattern) →
      IsAcceptedAs before entry x →
      IsFirstRefusalFrom (before ++ entry ∷ []) entries number id refusal →
      IsFirstRefusalFrom before (entry ∷ entries) number id refusal

-- The list is refused by its entry of that number and identifier, with that refusal.
abbrev pub IsFirstRefusal : List ListedEntry → (number : ℕ) → (id : ExprId) → Refusal → Type 0
IsFirstRefusal entries number id refusal = IsFirstRefusalFrom [] entries number id refusal
