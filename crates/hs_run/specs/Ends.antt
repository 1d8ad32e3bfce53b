-- Where matches of each identifier end about a byte, by the chains that are left.
use Rattle.std.specs.Prelude.{◌≡◌, ◌↔◌, ◌⊎◌, ℕ, ◌≤◌, Bool, true, false, List, [], ◌∷◌, ◌++◌, length, Some, slice_get}
use Rattle.hs_base.specs.declared.context.Next.{Next}
use Rattle.hs_base.specs.declared.context.Next.TheVariants as after
use Rattle.hs_base.specs.declared.context.NextSet.{NextSet}
use Rattle.hs_base.specs.Assertions.{line_feed}
use Rattle.hs_base.specs.Contexts.{class_of}
use Rattle.hs_base.specs.ContextSets.{has_next}
use Rattle.hs_base.specs.Leaving.{LeavesAt}
use Rattle.hs_base.specs.Lists.{OneOf}
use Rattle.hs_base.specs.Patterns.{Pattern}
use Rattle.hs_base.specs.Regions.{Plan}
use Rattle.hs_base.specs.Settling.{Ends, AreEnds, HasEndHere}
use Rattle.hs_layout.specs.Layouts.{Laid}
use Rattle.hs_run.specs.Chains.{AreKept}
use Rattle.hs_run.specs.Programs.{Row, RunsRow, RunsPlan}
use Rattle.hs_run.specs.Spots.{IsSpot}
use Rattle.hs_run.specs.declared.ends.Ends.{Ends as EndsAbout}
use Rattle.hs_rose.specs.declared.info.ChainInfo.{ChainInfo}
use Rattle.hs_rose.specs.declared.info.EntryInfo.{EntryInfo}
use Rattle.hs_rose.specs.declared.identifiers.Identifier.{Identifier}
use Rattle.hs_rose.specs.Programs.{Tables}
use Rattle.hs_run.specs.declared.spot.Spot.{Spot}

-- where matches of an identifier end about a byte, as plain data
abbrev pub ends_of : EndsAbout → Ends
ends_of ends = record { before = ends.before; before_last = ends.before_last; behind = ends.behind }

-- no match ends
abbrev pub no_ends : EndsAbout
no_ends = record { before = false; before_last = false; behind = false }

-- of each identifier
abbrev pub AreNoEnds : List EndsAbout → Type 0
AreNoEnds ends = (i : ℕ) (e : EndsAbout) → slice_get ends i ≡ Some e → e ≡ no_ends

-- The row's pattern has that identifier, and its chain is left behind u, within the bounds, where `next` comes next.
pub record RowEnds (id : ℕ) (u : List ℕ) (next : Next) (x : Row) : Type 0 where
  pub named : x.pattern.id ≡ id
  pub above : x.pattern.least ≤ length u
  pub below : length u ≤ x.pattern.greatest
  pub left : LeavesAt x.chain u next

-- left within the bounds of the entry
abbrev pub IsWithinBounds : EntryInfo → (at : ℕ) → NextSet → NextSet → Type 0
IsWithinBounds info at left within =
    (next : Next) →
    (has_next within next ≡ true) ↔ ((info.min_offset ≤ at) × (at ≤ info.max_offset) × (has_next left next ≡ true))

-- some row does
abbrev pub HasRowEnd : List Row → ℕ → List ℕ → Next → Type 0
HasRowEnd rows id u next = OneOf (RowEnds id u next) rows

-- The matches of the row about the byte were added to the ends.
pub record NotesRow (x : Row) (u : List ℕ) (b : ℕ) (old new : Ends) : Type 0 where
  pub before : (new.before ≡ true) ↔ ((old.before ≡ true) ⊎ RowEnds x.pattern.id u (class_of b) x)
  pub before_last :
      (new.before_last ≡ true) ↔
      ((old.before_last ≡ true) ⊎ ((b ≡ line_feed) × RowEnds x.pattern.id u after.FinalNewline x))
  pub behind : (new.behind ≡ true) ↔ ((old.behind ≡ true) ⊎ RowEnds x.pattern.id (u ++ b ∷ []) after.Unknown x)

-- about each identifier, those are where its matches end about the byte behind u
abbrev pub AreEndsAbout : List Pattern → List ℕ → ℕ → List Identifier → List EndsAbout → Type 0
AreEndsAbout P u b identifiers ends =
    (i : ℕ) (identifier : Identifier) (e : EndsAbout) →
    slice_get identifiers i ≡ Some identifier → slice_get ends i ≡ Some e → AreEnds P u b identifier.id.0 (ends_of e)

-- about each identifier, whether a match of it ends with the stream u is what is noted as behind
abbrev pub AreLastEnds : List Pattern → List ℕ → List Identifier → List EndsAbout → Type 0
AreLastEnds P u identifiers ends =
    (i : ℕ) (identifier : Identifier) (e : EndsAbout) →
    slice_get identifiers i ≡ Some identifier →
    slice_get ends i ≡ Some e →
    (e.behind ≡ true) ↔ HasEndHere P identifier.id.0 u after.End

-- The fields are those behind the byte, and the matches of the row are added to the ends.
pub record IsMoved (plan : Plan) (l : Laid) (c : ChainInfo) (x : Row) (new u : List ℕ) (b : ℕ) (before after : Ends) :
    Type 0 where
  pub kept : AreKept plan l new c.first c.end (u ++ b ∷ [])
  pub notes : NotesRow x u b before after

-- All fields are those behind the byte, and those are the ends of each identifier about it.
pub record AreMoved (plan : Plan) (l : Laid) (count : ℕ) (identifiers : List Identifier) (new u : List ℕ) (b : ℕ)
    (ends : List EndsAbout) : Type 0 where
  pub kept : AreKept plan l new 0 count (u ++ b ∷ [])
  pub about : AreEndsAbout plan.patterns u b identifiers ends

module _ (program : Tables) where
  -- whatever row the chain runs, and behind whatever stream
  abbrev pub MovesChain : Laid → ChainInfo → (old new : List ℕ) → Spot → (b : ℕ) → (before after : Ends) → Type 0
  MovesChain l c old new spot b before after =
      (plan : Plan) (x : Row) (u : List ℕ) → RunsRow program plan c x → IsSpot u spot →
      AreKept plan l old c.first c.end u → IsMoved plan l c x new u b before after

  -- whatever plan the program runs
  abbrev pub MovesChains : Laid → (old new : List ℕ) → Spot → (b : ℕ) → List EndsAbout → Type 0
  MovesChains l old new spot b ends =
      (plan : Plan) (u : List ℕ) → RunsPlan program plan → IsSpot u spot →
      AreKept plan l old 0 (length program.roles) u →
      AreMoved plan l (length program.roles) program.identifiers new u b ends

  -- whether matches of the row end with the stream was added
  abbrev pub EndsChain : Laid → ChainInfo → (region : List ℕ) → Spot → (before later : Bool) → Type 0
  EndsChain l c region spot before later =
      (plan : Plan) (x : Row) (u : List ℕ) → RunsRow program plan c x → IsSpot u spot →
      AreKept plan l region c.first c.end u →
      (later ≡ true) ↔ ((before ≡ true) ⊎ RowEnds x.pattern.id u after.End x)

  -- and where matches end with the stream
  abbrev pub EndsChains : Laid → (region : List ℕ) → Spot → List EndsAbout → Type 0
  EndsChains l region spot ends =
      (plan : Plan) (u : List ℕ) → RunsPlan program plan → IsSpot u spot →
      AreKept plan l region 0 (length program.roles) u →
      AreLastEnds plan.patterns u program.identifiers ends
