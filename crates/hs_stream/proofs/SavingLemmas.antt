-- Saved streams.
use Rattle.std.proofs.Common.{◌≡◌, ◌∙◌, ℕ, List, length, refl, sym, ap, subst}
use Rattle.hs_compile.specs.Databases.{Compiled, digest_of as database_digest}
use Rattle.hs_dbfile.specs.States.{IsReadOnce, IsStateFaultOf, State, state_bytes}
use Rattle.hs_dbfile.specs.declared.state.StateFault.{StateFault}
use Rattle.hs_dbfile.specs.declared.state.StateFault.TheVariants as state
use Rattle.hs_dbfile.proofs.StateLemmas.{states_read_once}
use Rattle.hs_kept.proofs.KeptLemmas.{kept-once, kept-well}
use Rattle.hs_regions.proofs.WellLemmas.{fault-never}
use Rattle.hs_stream.specs.declared.fault.ExpandFault.{ExpandFault}
use Rattle.hs_stream.specs.declared.fault.ExpandFault.TheVariants as fault
use Rattle.hs_stream.specs.declared.stream.Stream.{Stream}
use Rattle.hs_stream.specs.Leading.{IsBehind, IsFaultOf, IsRegionOf}
use Rattle.hs_stream.specs.Saving as saving
use Rattle.hs_stream.specs.Saving.{IsExpanded, IsExpandFaultOf, IsFormFault, IsSaved, told_as}
use Rattle.hs_stream.specs.SavingLaws.{ExpandedGoesOn, ExpandedStands, FaultsAreOfThePlan, HistoriesAreTaken, HistoriesHaveOneFile, IsTaken, SavedIsTaken}
use Rattle.hs_stream.specs.Streams.{region_of}
use Rattle.hs_stream.proofs.PackedLemmas.{kept-exact}
use Rattle.hs_stream.proofs.WriteLemmas.{cuts-tell_nothing}

-- ---- what a file gives

-- a fault of the file is one of the stream
pub fault-told : (db : Compiled) (bytes : List ℕ) (f : StateFault) → IsStateFaultOf bytes (database_digest db) f → IsExpandFaultOf db bytes (told_as f)
fault-told db bytes (state.Form at) place = saving.outer place
fault-told db bytes (state.Version version) other = other
fault-told db bytes state.OtherDatabase other = other

module _ (db : Compiled) (bytes region : List ℕ) (well : IsRegionOf db region) (saved : IsSaved db bytes region) where
  once : IsReadOnce bytes (database_digest db)
  once = states_read_once bytes (database_digest db)

  no-form : (at : ℕ) → IsFormFault db bytes at → ⊥
  no-form at (saving.outer place) = once.never region (state.Form at) saved place
  no-form at (saving.size other own apart_is is) = apart_is (ap length (once.regions other region own saved) ∙ well.len)
  no-form at (saving.field other place own sized broken is) =
      let fault = subst (λ r. IsFaultOf db r place) (once.regions other region own saved) broken in
      let plan = fault.whole.plan in
      fault-never plan region place (fault.first plan fault.whole.is_of) ((kept-exact db plan fault.whole.is_of region saved.is.region.bytes).0 well)

  free-alone : (f : ExpandFault) → IsExpandFaultOf db bytes f → f ≡ fault.Memory
  free-alone (fault.Form at) form = absurd (no-form at form)
  free-alone (fault.Version version) other = absurd (once.never region (state.Version version) saved other)
  free-alone fault.OtherDatabase other = absurd (once.never region state.OtherDatabase saved other)
  free-alone fault.Memory free = refl

  taken : IsTaken db bytes region
  taken = record { same = λ stream is. once.regions (region_of stream) region is.saved saved; free = free-alone }

pub saved-taken : SavedIsTaken
saved-taken db bytes region well saved = taken db bytes region well saved

pub histories-taken : HistoriesAreTaken
histories-taken db plan u bytes region is behind saved =
    taken db bytes region ((kept-exact db plan is region behind.region.bytes).1 (kept-well plan u region behind.region)) saved

-- what is expanded has the region that was saved
same-region : (db : Compiled) (bytes : List ℕ) (saved expanded : Stream) → IsSaved db bytes (region_of saved) → IsExpanded db bytes expanded → region_of saved ≡ region_of expanded
same-region db bytes saved expanded own is = (states_read_once bytes (database_digest db)).regions (region_of saved) (region_of expanded) own is.saved

pub expanded-stands : ExpandedStands
expanded-stands db P u bytes saved expanded stands own is = record {
  runs = stands.runs;
  behind = subst (IsBehind stands.runs.plan u) (same-region db bytes saved expanded own is) stands.behind;
  told = stands.told;
  is_told = stands.is_told;
}

pub expanded-on : ExpandedGoesOn
expanded-on db plan u told is told_is saved expanded end end' bytes pieces pieces' pairs pairs' behind own expanded_is same written written' =
    cuts-tell_nothing db plan u told is told_is saved expanded end end' pieces pieces' pairs pairs' behind
    (subst (IsBehind plan u) (same-region db bytes saved expanded own expanded_is) behind) same written written'

file_of : List ℕ → List ℕ → State
file_of digest region = record { version = 2; digest = digest; region = region }

pub one-file : HistoriesHaveOneFile
unfolding file_of
one-file db plan u bytes bytes' region region' behind behind' own own' =
    own.whole ∙ (ap (λ r. state_bytes (file_of (database_digest db) r)) (kept-once plan u region region' behind.region behind'.region) ∙ sym own'.whole)

pub faults-planned : FaultsAreOfThePlan
faults-planned db plan region place is fault = fault.first plan is
