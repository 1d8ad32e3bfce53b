-- The chains of a program at the end of a stream, those before a number of them asked: one more.
use Rattle.std.proofs.Common.{◌≡◌, ℕ, ◌+◌, ◌-◌, List, length, set, take, Some, slice_get, sym, ap, subst, ◌∙◌, arith}
use Rattle.std.proofs.lemmas.Option.{same_Some, slice_get_within}
use Rattle.std.proofs.Math.Seq.{take-length}
use Rattle.hs_base.specs.Regions.{Plan}
use Rattle.hs_layout.specs.Layouts.{Laid}
use Rattle.hs_run.specs.Chains.{AreKept}
use Rattle.hs_run.specs.Ends.{AreNoEnds, EndsChain, EndsChains}
use Rattle.hs_run.specs.Programs.{Row, RunsRow, IsChainSound, RunsPlan, plan_rows}
use Rattle.hs_run.specs.Spots.{IsSpot}
use Rattle.hs_run.specs.declared.ends.Ends.{Ends as EndsAbout}
use Rattle.hs_rose.specs.declared.info.ChainInfo.{ChainInfo}
use Rattle.hs_rose.specs.declared.info.EntryInfo.{EntryInfo}
use Rattle.hs_rose.specs.Programs.{Tables}
use Rattle.hs_run.specs.declared.spot.Spot.{Spot}
use Rattle.hs_run.proofs.DoneLemmas.{rising-ids}
use Rattle.hs_run.proofs.LayoutLemmas.{there}
use Rattle.hs_run.proofs.RowLemmas.{AreRowsLast, last-more_end, last-none, last-patterns}

module _ (program : Tables) (l : Laid) (region : List ℕ) (spot : Spot) where
  -- of the chains before that number
  pub record AreEnded (j : ℕ) (ends : List EndsAbout) : Type 0 where
    pub about : (plan : Plan) (u : List ℕ) → RunsPlan program plan → IsSpot u spot → AreKept plan l region 0 (length program.roles) u →
        AreRowsLast (take j (plan_rows plan)) u program.identifiers ends

  pub ended-none : (ends : List EndsAbout) → AreNoEnds ends → AreEnded 0 ends
  ended-none ends none = record { about = λ plan u runs is kept. last-none u program.identifiers ends none }

  pub ended-more : (j : ℕ) (ends : List EndsAbout) (c : ChainInfo) (e e' : EndsAbout) → AreEnded j ends → slice_get program.chains j ≡ Some c → IsChainSound program c →
      EndsChain program l c region spot e.behind e'.behind → (info : EntryInfo) → slice_get program.entries (c.entry - 1) ≡ Some info → slice_get ends info.identifier ≡ Some e → AreEnded (j + 1) (set ends info.identifier e')
  ended-more j ends c e e' ended chain sound joins info entry slot = record {
    about = λ plan u runs is kept.
        let rows : List Row = plan_rows plan in
        let (x, row) = there rows j (omega (arith, runs.count, slice_get_within program.chains j c chain)) in
        let is_row : RunsRow program plan c x = runs.rows j c x chain row in
        let one = joins plan x u is_row is (λ k p low high place. kept k p (omega arith) (omega (arith, high, sound.within)) place) in
        last-more_end program.identifiers (rising-ids program plan runs) rows j x row info.identifier is_row.identifier
        (subst (λ (q : EntryInfo). slice_get program.identifiers q.identifier ≡ Some is_row.identifier) (same_Some is_row.entry info (sym is_row.entry_there ∙ entry)) is_row.named) is_row.id u ends e e' slot one (ended.about plan u runs is kept);
  }

  pub ended-all : (j : ℕ) (ends : List EndsAbout) → AreEnded j ends → j ≡ length program.chains → EndsChains program l region spot ends
  ended-all j ends ended all plan u runs is kept =
      let whole : take j (plan_rows plan) ≡ plan_rows plan = ap (λ n. take n (plan_rows plan)) (all ∙ runs.count) ∙ take-length (plan_rows plan) in
      last-patterns plan.patterns u program.identifiers ends runs.spans (subst (λ rows. AreRowsLast rows u program.identifiers ends) whole (ended.about plan u runs is kept))
