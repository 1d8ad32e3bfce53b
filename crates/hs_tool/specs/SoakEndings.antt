-- How `soak SEED N` ends.
use Rattle.std.specs.Prelude.{◌≡◌, ℕ, ◌*◌, List, ◌++◌, codes, decimal, Option, Some, None}
use Rattle.hs_base.specs.declared.entry.ExprId.{ExprId}
use Rattle.hs_base.specs.declared.refusal.Refusal.{Refusal}
use Rattle.hs_base.specs.Patterns.{Pattern}
use Rattle.hs_outside.specs.Counts.{Rose}
use Rattle.hs_outside.specs.Sink.{Took, TookPrefix}
use Rattle.hs_compile.specs.Lists.{AreAcceptedAs, IsFirstRefusal}
use Rattle.hs_compile.specs.Sizes.{IsKeptSizeOf}
use Rattle.hs_lists.specs.Causes.{Cause, refused, write, memory}
use Rattle.hs_lists.specs.Endings.{Outside, NoFault, TookNothing}
use Rattle.hs_stream.specs.declared.tally.Tally.{Tally}
use Rattle.hs_stream.specs.Summaries.{soak_lines}
use Rattle.hs_stream.specs.Drawing.{drawn_entries, drawn_stream}
use Rattle.hs_stream.specs.CutRuns.{IsSummary}

-- The text of the runs over what is drawn from the seed: both tell the same.
pub record IsSoakText (seed count : ℕ) (text : List ℕ) : Type 0 where
  pub patterns : List Pattern
  pub accepted : AreAcceptedAs (drawn_entries seed count) patterns
  pub size : ℕ
  pub is_size : IsKeptSizeOf patterns size
  pub tally : Tally
  pub summary : IsSummary patterns (drawn_stream seed count) tally
  pub whole : text ≡ soak_lines count (64 * count) size tally tally

-- How the command may end: done; by a refusal of the list that is drawn; for want of memory; or by the sink.
pub data SoakEnds (seed count : ℕ) (before now : Outside) : Option Cause → Type 0 where
  done : (text : List ℕ) →
      IsSoakText seed count text →
      Took before.out now.out text →
      NoFault before now →
      SoakEnds seed count before now None
  list_refused : (number : ℕ) (id : ExprId) (refusal : Refusal) →
      IsFirstRefusal (drawn_entries seed count) number id refusal →
      TookNothing before now →
      NoFault before now →
      SoakEnds seed count before now (Some (refused (Some (number, id)) refusal))
  no_memory :
      TookNothing before now →
      NoFault before now →
      SoakEnds seed count before now (Some memory)
  sink_failed : (text : List ℕ) →
      IsSoakText seed count text →
      TookPrefix before.out now.out text →
      Rose before.sunk now.sunk →
      SoakEnds seed count before now (Some write)
