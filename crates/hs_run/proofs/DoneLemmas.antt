-- The chains of a program over a byte, those before a number of them done: one more.
use Rattle.std.proofs.Common.{◌≡◌, ℕ, suc, ◌+◌, ◌-◌, ◌≤◌, List, [], ◌∷◌, ◌++◌, length, set, take, Some, slice_get, sym, ap, subst, ◌∙◌, inl, inr, arith}
use Rattle.std.proofs.lemmas.Option.{same_Some, slice_get_within}
use Rattle.std.proofs.Math.Seq.{take-length}
use Rattle.hs_base.specs.Regions.{Plan}
use Rattle.hs_base.specs.Settling.{AreRising}
use Rattle.hs_layout.specs.Layouts.{Laid}
use Rattle.hs_rose.specs.Identifiers.{ids_of}
use Rattle.hs_run.specs.Chains.{AreKept, AreParts, AreWritten}
use Rattle.hs_run.specs.Ends.{AreNoEnds, MovesChain, MovesChains, ends_of}
use Rattle.hs_run.specs.Programs.{Row, RunsRow, FitsLayout, IsChainSound, RunsPlan, IsRunnable, plan_rows}
use Rattle.hs_run.specs.Spots.{IsSpot}
use Rattle.hs_run.specs.declared.ends.Ends.{Ends as EndsAbout}
use Rattle.hs_rose.specs.declared.info.ChainInfo.{ChainInfo}
use Rattle.hs_rose.specs.declared.info.EntryInfo.{EntryInfo}
use Rattle.hs_rose.specs.Programs.{Tables}
use Rattle.hs_run.specs.declared.spot.Spot.{Spot}
use Rattle.hs_run.proofs.LayoutLemmas.{there, starts-count, written-none, written-more}
use Rattle.hs_run.proofs.MovingLemmas.{kept-join, kept-stay, parts-join, parts-stay}
use Rattle.hs_run.proofs.RowLemmas.{AreRowsAbout, about-more, about-none, about-patterns}

pub rising-ids : (program : Tables) (plan : Plan) → RunsPlan program plan → AreRising (ids_of program.identifiers)
rising-ids program plan runs = subst AreRising (sym runs.ids) runs.is_plan.identifiers

module _ (program : Tables) (l : Laid) (old : List ℕ) (spot : Spot) (b : ℕ) where
  abbrev pub count : ℕ
  count = length program.roles

  -- The chains before that number are done: their fields are those behind the byte, the others' as they were.
  pub record AreDone (j : ℕ) (region : List ℕ) (ends : List EndsAbout) : Type 0 where
    pub at : ℕ
    pub below : at ≤ count
    pub next : (c : ChainInfo) → slice_get program.chains j ≡ Some c → c.first ≡ at
    pub end : j ≡ length program.chains → at ≡ count
    pub written : AreWritten l 0 at old region
    pub parts : AreParts program l region 0 at (spot.at + 1)
    pub moves : (plan : Plan) (u : List ℕ) → RunsPlan program plan → IsSpot u spot → AreKept plan l old 0 count u →
        AreKept plan l region 0 at (u ++ b ∷ []) × AreRowsAbout (take j (plan_rows plan)) u b program.identifiers ends

module _ (program : Tables) (l : Laid) (fits : FitsLayout program l) (runnable : IsRunnable program) (old : List ℕ) (spot : Spot) (b : ℕ) where
  pub done-none : (ends : List EndsAbout) → AreNoEnds ends → AreDone program l old spot b 0 old ends
  done-none ends none = record {
    at = 0;
    below = omega arith;
    next = runnable.begins;
    end = λ empty. sym (runnable.none (sym empty));
    written = written-none l 0 0 old;
    parts = λ k r low high role. absurd (omega (arith, high));
    moves = λ plan u runs is kept. (λ k p low high place. absurd (omega (arith, high)), about-none u b program.identifiers ends none);
  }

  module _ (j : ℕ) (region new : List ℕ) (ends : List EndsAbout) (c : ChainInfo) (e e' : EndsAbout) (done : AreDone program l old spot b j region ends) (chain : slice_get program.chains j ≡ Some c) where
    starts : length l.starts ≡ length program.roles + 1
    starts = starts-count program l fits

    sound : IsChainSound program c
    sound = runnable.chains j c chain

    first : c.first ≡ done.at
    first = done.next c chain

    -- the parts of the chain are as they were
    pub chain-parts : AreParts program l old 0 (length program.roles) spot.at → AreParts program l region c.first c.end spot.at
    chain-parts parts =
        parts-stay program l 0 done.at c.first c.end spot.at old region starts done.written (inr (omega (arith, first)))
        (λ k r low high role. parts k r (omega arith) (omega (arith, high, sound.within)) role)

    chain-kept : (plan : Plan) (u : List ℕ) → AreKept plan l old 0 (length program.roles) u → AreKept plan l region c.first c.end u
    chain-kept plan u kept =
        kept-stay plan l 0 done.at c.first c.end old region u (omega (arith, starts, sound.within)) done.written (inr (omega (arith, first)))
        (λ k p low high place. kept k p (omega arith) (omega (arith, high, sound.within)) place)

    pub done-more : AreWritten l c.first c.end region new → AreParts program l new c.first c.end (spot.at + 1) → MovesChain program l c region new spot b (ends_of e) (ends_of e') →
        (info : EntryInfo) → slice_get program.entries (c.entry - 1) ≡ Some info → slice_get ends info.identifier ≡ Some e → AreDone program l old spot b (j + 1) new (set ends info.identifier e')
    done-more written parts moves info entry slot = record {
      at = c.end;
      below = sound.within;
      next = λ d is. runnable.follows j c d chain (ap (slice_get program.chains) (let s : suc j ≡ j + 1 = omega arith in s) ∙ is);
      end = λ last. runnable.ends j c chain (omega (arith, last));
      written = written-more l 0 done.at c.end old region new (omega arith) (omega (arith, first, sound.order)) done.written (subst (λ n. AreWritten l n c.end region new) first written);
      parts =
          parts-join program l 0 c.first c.end (spot.at + 1) new
          (parts-stay program l c.first c.end 0 c.first (spot.at + 1) region new starts written (inl (omega arith)) (subst (λ n. AreParts program l region 0 n (spot.at + 1)) (sym first) done.parts)) parts;
      moves = λ plan u runs is kept.
          let (before, about) = done.moves plan u runs is kept in
          let rows : List Row = plan_rows plan in
          let (x, row) = there rows j (omega (arith, runs.count, slice_get_within program.chains j c chain)) in
          let is_row : RunsRow program plan c x = runs.rows j c x chain row in
          let moved = moves plan x u is_row is (chain-kept plan u kept) in (
            kept-join plan l 0 c.first c.end new (u ++ b ∷ [])
                (kept-stay plan l c.first c.end 0 c.first region new (u ++ b ∷ []) (omega (arith, starts, sound.order, sound.within)) written (inl (omega arith)) (subst (λ n. AreKept plan l region 0 n (u ++ b ∷ [])) (sym first) before))
                moved.kept,
            about-more program.identifiers (rising-ids program plan runs) rows j x row info.identifier is_row.identifier
                (subst (λ (q : EntryInfo). slice_get program.identifiers q.identifier ≡ Some is_row.identifier) (same_Some is_row.entry info (sym is_row.entry_there ∙ entry)) is_row.named) is_row.id u ends e e' slot b moved.notes about,
          );
    }

  -- all done
  pub done-written : (j : ℕ) (region : List ℕ) (ends : List EndsAbout) → AreDone program l old spot b j region ends → j ≡ length program.chains → AreWritten l 0 (length program.roles) old region
  done-written j region ends done all = subst (λ n. AreWritten l 0 n old region) (done.end all) done.written

  pub done-parts : (j : ℕ) (region : List ℕ) (ends : List EndsAbout) → AreDone program l old spot b j region ends → j ≡ length program.chains → AreParts program l region 0 (length program.roles) (spot.at + 1)
  done-parts j region ends done all = subst (λ n. AreParts program l region 0 n (spot.at + 1)) (done.end all) done.parts

  pub done-moves : (j : ℕ) (region : List ℕ) (ends : List EndsAbout) → AreDone program l old spot b j region ends → j ≡ length program.chains → MovesChains program l old region spot b ends
  done-moves j region ends done all plan u runs is kept =
      let (now, about) = done.moves plan u runs is kept in
      let whole : take j (plan_rows plan) ≡ plan_rows plan = ap (λ n. take n (plan_rows plan)) (all ∙ runs.count) ∙ take-length (plan_rows plan) in
      record {
        kept = subst (λ n. AreKept plan l region 0 n (u ++ b ∷ [])) (done.end all) now;
        about = about-patterns plan.patterns u b program.identifiers ends runs.spans (subst (λ rows. AreRowsAbout rows u b program.identifiers ends) whole about);
      }
