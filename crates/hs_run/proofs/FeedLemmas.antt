-- What one byte, many bytes and the end make of a region, over plain values.
use Rattle.std.proofs.Common.{◌≡◌, ◌↔◌, ℕ, ◌+◌, ◌-◌, ◌*◌, ◌/◌, ◌<◌, ◌≤◌, ◌⊎◌, Bool, true, false, List, [], ◌∷◌, ◌++◌, length, get_or, Some, slice_get, refl, sym, ap, subst, ◌∙◌, inl, inr, arith, append_assoc, length-append}
use Rattle.std.specs.Prelude.{slice_index, slice_range}
use Rattle.std.proofs.lemmas.List.{append-nil}
use Rattle.std.proofs.lemmas.Option.{slice_get_within}
use Rattle.hs_base.specs.Bits.{has_bit}
use Rattle.hs_base.specs.KeptPieces.{IsKeptAs}
use Rattle.hs_base.specs.Lists.{Each}
use Rattle.hs_base.specs.Offsets.{greatest_offset}
use Rattle.hs_base.specs.Patterns.{Pattern}
use Rattle.hs_base.specs.Regions.{Plan, IsRegion, fields_at, last_bytes, place_form, region_offset}
use Rattle.hs_base.specs.Settling.{IsKept, IsLeftToEnd, tells_end}
use Rattle.hs_base.specs.Told.{Pair, IsTold, IsNew, IsLast}
use Rattle.hs_base.proofs.ListLemmas.{each-append}
use Rattle.hs_base.proofs.NewLemmas.{new_nothing, told_more}
use Rattle.hs_base.proofs.PairListLemmas.{IsNewAtEnd, IsNewBefore, IsNewBehind, byte-new, last-reports}
use Rattle.hs_base.proofs.SettlingLemmas.{IsSettled, byte-settled, end-settled}
use Rattle.hs_base.proofs.ToldLemmas.{new-joins}
use Rattle.hs_layout.specs.Layouts.{Laid, field_bytes, laid_size, with_part}
use Rattle.hs_rose.specs.Identifiers.{ids_of}
use Rattle.hs_run.specs.Chains.{AreKept, AreParts, AreWritten}
use Rattle.hs_run.specs.Ends.{AreEndsAbout, AreLastEnds, EndsChains, MovesChains, ends_of}
use Rattle.hs_reports.specs.Events.{Takes, still}
use Rattle.hs_run.specs.Feeding.{EndsAlike, Feeds, Finishes, GoesOnAlike, SettlesBits}
use Rattle.hs_run.specs.Keeping.{AreBitsWritten, AreRead, IsSpareBit, plain_kept}
use Rattle.hs_run.specs.Pieces.{IsPart}
use Rattle.hs_run.specs.Programs.{FitsLayout, RunsPlan}
use Rattle.hs_run.specs.Reporting.{AreSettled, pairs_about, pairs_at, told_values}
use Rattle.hs_run.specs.Spots.{IsSpot}
use Rattle.hs_run.specs.declared.ends.Ends.{Ends as EndsAbout}
use Rattle.hs_run.specs.declared.kept.Kept.{Kept as KeptOf}
use Rattle.hs_rose.specs.declared.identifiers.Identifier.{Identifier}
use Rattle.hs_rose.specs.Programs.{Tables}
use Rattle.hs_run.specs.declared.reporting.Moment.TheVariants.{BeforeByte, BehindByte, BeforeLastByte, AtEnd}
use Rattle.hs_run.specs.declared.spot.Spot.{Spot}
use Rattle.hs_run.proofs.BitRegionLemmas.{are-identifiers, here-bits, kept-read, last-bits, told-bits}
use Rattle.hs_run.proofs.ByteLemmas.{bit-same, part-behind, range-same, take-same}
use Rattle.hs_reports.proofs.EventLemmas.{through-join}
use Rattle.hs_run.proofs.LayoutLemmas.{there, apart, field-order, field-within, starts-count}
use Rattle.hs_run.proofs.PlanLayoutLemmas.{kept-region, plan_layout, plan-laid, plan-size, region-kept, roles-count}
use Rattle.hs_run.proofs.ReportingLemmas.{tell-each}

-- The bytes of a region over one byte: the fields move, the bits are settled, then history and offset are written.
pub record AreSteps (l : Laid) (count : ℕ) (r0 r1 r2 r3 r4 history offset : List ℕ) : Type 0 where
  pub sized : length r0 ≡ laid_size l
  pub room : 72 ≤ fields_at l.singles l.identifiers
  pub header : fields_at l.singles l.identifiers ≤ laid_size l
  pub moved : AreWritten l 0 count r0 r1
  pub len : length r2 ≡ length r1
  pub bytes : (i : ℕ) → (i < 72) ⊎ (fields_at l.singles l.identifiers ≤ i) → get_or r2 i 0 ≡ get_or r1 i 0
  pub third : r3 ≡ with_part r2 8 72 history
  pub wide : length history ≡ 64
  pub len_third : length r3 ≡ length r2
  pub fourth : r4 ≡ with_part r3 0 8 offset
  pub wide_offset : length offset ≡ 8
  pub len_fourth : length r4 ≡ length r3

module _ (l : Laid) (count : ℕ) (r0 r1 r2 r3 r4 history offset : List ℕ) (steps : AreSteps l count r0 r1 r2 r3 r4 history offset) where
  pub size : length r4 ≡ laid_size l
  size = steps.len_fourth ∙ (steps.len_third ∙ (steps.len ∙ (steps.moved.len ∙ steps.sized)))

  long : 72 ≤ length r2
  long = omega (arith, steps.len, steps.moved.len, steps.sized, steps.room, steps.header)

  -- behind the offset, and behind the history
  late : (i : ℕ) → 8 ≤ i → get_or r4 i 0 ≡ get_or r3 i 0
  late i above = ap (λ r. get_or r i 0) steps.fourth ∙ part-behind r3 offset 0 8 i (omega (arith, steps.wide_offset)) (omega (arith, steps.len_third, long)) above

  later : (i : ℕ) → 72 ≤ i → get_or r4 i 0 ≡ get_or r2 i 0
  later i above =
      late i (omega (arith, above))
      ∙ (ap (λ r. get_or r i 0) steps.third ∙ part-behind r2 history 8 72 i (omega (arith, steps.wide)) long above)

  pub history-stays : slice_range r4 8 72 ≡ slice_range r3 8 72
  history-stays = range-same r4 r3 8 72 steps.len_fourth (omega arith) (omega (arith, steps.len_fourth, steps.len_third, long)) (λ i above below. late i above)

  pub bits-stay : (k : ℕ) → 8 * 72 ≤ k → has_bit r4 k ≡ has_bit r2 k
  bits-stay k above = bit-same r4 r2 k (later (k / 8) (omega (arith, above)))

  pub bits-before : (k : ℕ) → k < 8 * fields_at l.singles l.identifiers → has_bit r1 k ≡ has_bit r0 k
  bits-before k below = bit-same r1 r0 k (take-same (fields_at l.singles l.identifiers) (k / 8) r1 r0 steps.moved.header (omega (arith, below)))

  pub field-stays : (low high : ℕ) → fields_at l.singles l.identifiers ≤ low → low ≤ high → high ≤ laid_size l → slice_range r4 low high ≡ slice_range r1 low high
  field-stays low high above order within =
      range-same r4 r1 low high (steps.len_fourth ∙ (steps.len_third ∙ steps.len)) order (omega (arith, size, within))
      (λ i low_i high_i. later i (omega (arith, low_i, above, steps.room)) ∙ steps.bytes i (inr (omega (arith, low_i, above))))

-- bits that stand for nothing

spare-above : (plan : Plan) (k : ℕ) → IsSpareBit (plan_layout plan) k → 8 * 72 ≤ k
spare-above plan k (inl (low, high)) = omega (arith, low)
spare-above plan k (inr (inl (low, high))) = omega (arith, low)
spare-above plan k (inr (inr (low, high))) = omega (arith, low)

spare-below : (plan : Plan) (k : ℕ) → IsSpareBit (plan_layout plan) k → k < 8 * fields_at (length plan.singles) (length plan.identifiers)
spare-below plan k (inl (low, high)) = omega (arith, high)
spare-below plan k (inr (inl (low, high))) = omega (arith, high)
spare-below plan k (inr (inr (low, high))) = high

spare-was : (plan : Plan) (u region : List ℕ) → IsRegion plan u region → (k : ℕ) → IsSpareBit (plan_layout plan) k → has_bit region k ≡ false
spare-was plan u region is k (inl (low, high)) = is.told.spare k low high
spare-was plan u region is k (inr (inl (low, high))) = is.here.spare k low high
spare-was plan u region is k (inr (inr (low, high))) = is.last.spare k low high

-- the fields of the last region are those of the one in which they moved

module _ (program : Tables) (l : Laid) (fits : FitsLayout program l) (r0 r1 r2 r3 r4 history offset : List ℕ)
    (steps : AreSteps l (length program.roles) r0 r1 r2 r3 r4 history offset) where
  same-field : (k : ℕ) → k < length program.roles → field_bytes l r4 k ≡ field_bytes l r1 k
  same-field k below =
      let laid = apart program l fits in
      let first : slice_index l.starts 0 ≤ slice_index l.starts k = laid.rising 0 k (omega arith) (omega (arith, below, starts-count program l fits)) in
      field-stays l (length program.roles) r0 r1 r2 r3 r4 history offset steps (slice_index l.starts k) (slice_index l.starts (k + 1)) (omega (arith, first, laid.first)) (field-order program l fits k below)
      (field-within program l fits k below)

  pub fields-moved : (plan : Plan) (v : List ℕ) → AreKept plan l r1 0 (length program.roles) v → AreKept plan l r4 0 (length program.roles) v
  fields-moved plan v kept k p low high place = subst (λ bytes. IsKeptAs (place_form p) p.pieces bytes v) (sym (same-field k high)) (kept k p low high place)

  pub parts-moved : (at : ℕ) → AreParts program l r1 0 (length program.roles) at → AreParts program l r4 0 (length program.roles) at
  parts-moved at parts k r low high role = subst (λ bytes. IsPart program r bytes at) (sym (same-field k high)) (parts k r low high role)

-- what a byte settles of the identifiers

module _ (program : Tables) (plan : Plan) (runs : RunsPlan program plan) (u : List ℕ) (b : ℕ) (ks : List KeptOf) (es : List EndsAbout)
    (kept_count : length ks ≡ length program.identifiers) (ends_count : length es ≡ length program.identifiers)
    (kept : (i : ℕ) (x : Identifier) (k : KeptOf) → slice_get program.identifiers i ≡ Some x → slice_get ks i ≡ Some k → IsKept plan.patterns u x.id.0 (plain_kept k))
    (about : AreEndsAbout plan.patterns u b program.identifiers es) where
  decided : (i : ℕ) (x : Identifier) (k : KeptOf) (e : EndsAbout) → slice_get program.identifiers i ≡ Some x → slice_get ks i ≡ Some k → slice_get es i ≡ Some e →
      IsSettled plan.patterns u b x.id.0 x.single (plain_kept k) (ends_of e)
  decided i x k e at at' at'' =
      subst (λ single. IsSettled plan.patterns u b x.id.0 single (plain_kept k) (ends_of e)) (sym (runs.single i x at))
      (byte-settled plan.patterns u b x.id.0 (plain_kept k) (ends_of e) (kept i x k at at') (about i x e at at''))

  pub kept-behind : (ns : List KeptOf) → AreSettled program.identifiers ks es ns → (i : ℕ) (x : Identifier) (k' : KeptOf) → slice_get program.identifiers i ≡ Some x → slice_get ns i ≡ Some k' →
      IsKept plan.patterns (u ++ b ∷ []) x.id.0 (plain_kept k')
  kept-behind ns settles i x k' at at' =
      let below : i < length program.identifiers = slice_get_within program.identifiers i x at in
      let (k, at_k) = there ks i (omega (arith, below, kept_count)) in
      let (e, at_e) = there es i (omega (arith, below, ends_count)) in
      subst (IsKept plan.patterns (u ++ b ∷ []) x.id.0) (sym (settles i x k k' e at at_k at_e at')) (decided i x k e at at_k at_e).kept

  pub byte-reports : (told : List Pair) → IsTold plan.patterns u told → IsNew plan.patterns u (b ∷ []) (pairs_about program.identifiers ks es (length u))
  byte-reports told told_is =
      let xs : List Identifier = program.identifiers in
      let befores : List Bool = told_values BeforeByte xs ks es in
      let behinds : List Bool = told_values BehindByte xs ks es in
      let told_before = tell-each BeforeByte xs ks es kept_count ends_count (IsNewBefore plan.patterns u b) (λ i x k e at at' at''. (decided i x k e at at' at'').before) in
      let told_behind = tell-each BehindByte xs ks es kept_count ends_count (IsNewBehind plan.patterns u b) (λ i x k e at at' at''. (decided i x k e at at' at'').behind) in
      byte-new plan.patterns u b (ids_of xs) befores behinds (are-identifiers program plan runs) told_before told_behind told told_is

-- a byte

module _ (program : Tables) (l : Laid) (fits : FitsLayout program l) (spot behind : Spot) (b : ℕ)
    (r0 r1 r2 r3 r4 history offset : List ℕ) (ends : List EndsAbout) (pairs : List Pair)
    (stands : (u : List ℕ) → Each (λ b. b < 256) u → region_offset r0 ≡ length u → slice_range r0 8 72 ≡ last_bytes 64 u → IsSpot u spot)
    (next : (u : List ℕ) → IsSpot u spot → IsSpot (u ++ b ∷ []) behind)
    (moves : MovesChains program l r0 r1 spot b ends) (settles : SettlesBits l program.identifiers ends r1 r2 spot.at pairs)
    (ends_count : length ends ≡ length program.identifiers)
    (steps : AreSteps l (length program.roles) r0 r1 r2 r3 r4 history offset) (reads : slice_range r3 8 72 ≡ behind.history) (counts : region_offset r4 ≡ behind.at)
    (bytes : Each (λ b. b < 256) r4) (room : spot.at + 1 ≤ greatest_offset) where
  pub byte-feeds : Feeds program r0 r4 (b ∷ []) pairs
  byte-feeds plan u told runs each is told_is =
      let same : l ≡ plan_layout plan = plan-laid program plan runs l fits in
      let count : ℕ = length program.roles in
      let v : List ℕ = u ++ b ∷ [] in
      let here : IsSpot u spot = stands u each is.offset is.history in
      let there' : IsSpot v behind = next u here in
      let moved = moves plan u runs here (subst (λ m. AreKept plan m r0 0 count u) (sym same) (region-kept plan u r0 0 count is)) in
      let steps' : AreSteps (plan_layout plan) count r0 r1 r2 r3 r4 history offset = subst (λ m. AreSteps m count r0 r1 r2 r3 r4 history offset) same steps in
      let was : AreRead (plan_layout plan) r1 program.identifiers settles.before = subst (λ m. AreRead m r1 program.identifiers settles.before) same settles.was in
      let now : AreRead (plan_layout plan) r2 program.identifiers settles.later = subst (λ m. AreRead m r2 program.identifiers settles.later) same settles.is in
      let before = bits-before (plan_layout plan) count r0 r1 r2 r3 r4 history offset steps' in
      let stay = bits-stay (plan_layout plan) count r0 r1 r2 r3 r4 history offset steps' in
      let kept = kept-read program plan runs u r0 r1 settles.before is before was in
      let later = kept-behind program plan runs u b settles.before ends settles.before_count ends_count kept moved.about settles.later settles.settles in
      let spare : (k : ℕ) → IsSpareBit (plan_layout plan) k → has_bit r4 k ≡ false = λ k spared.
      stay k (spare-above plan k spared) ∙ ((subst (λ m. AreBitsWritten m r1 r2) same settles.written).spare k spared ∙ (before k (spare-below plan k spared) ∙ spare-was plan u r0 is k spared)) in
      record {
        region = record {
          within = omega (arith, length-append u (b ∷ []), here.offset, room);
          len = size (plan_layout plan) count r0 r1 r2 r3 r4 history offset steps' ∙ plan-size plan;
          bytes = bytes;
          offset = counts ∙ there'.offset;
          history = history-stays (plan_layout plan) count r0 r1 r2 r3 r4 history offset steps' ∙ (reads ∙ there'.past);
          told = told-bits program plan runs v r2 r4 settles.later settles.later_count now later stay spare;
          here = here-bits program plan runs v r2 r4 settles.later settles.later_count now later stay spare;
          last = last-bits program plan runs v r2 r4 settles.later settles.later_count now later stay spare;
          fields =
              kept-region plan v r4 count (roles-count program plan runs)
              (subst (λ m. AreKept plan m r4 0 count v) same (fields-moved program l fits r0 r1 r2 r3 r4 history offset steps plan v moved.kept));
        };
        new =
            subst (IsNew plan.patterns u (b ∷ [])) (sym (settles.told ∙ ap (pairs_about program.identifiers settles.before ends) here.offset))
            (byte-reports program plan runs u b settles.before ends settles.before_count ends_count kept moved.about told told_is);
      }

-- No byte, and more bytes.

module _ (program : Tables) where
  pub feeds-none : (region : List ℕ) → Feeds program region region [] []
  feeds-none region plan u told runs each is told_is = record {
    region = subst (λ s. IsRegion plan s region) (sym (append-nil u)) is;
    new = new_nothing plan.patterns u told told_is;
  }

  pub feeds-more : (old between new : List ℕ) (xs ys : List ℕ) (ps qs : List Pair) → Each (λ b. b < 256) xs → Feeds program old between xs ps → Feeds program between new ys qs → Feeds program old new (xs ++ ys) (ps ++ qs)
  feeds-more old between new xs ys ps qs small first second plan u told runs each is told_is =
      let before = first plan u told runs each is told_is in
      let after = second plan (u ++ xs) (told ++ ps) runs (each-append (λ b. b < 256) u xs each small) before.region (told_more plan.patterns u xs told ps told_is before.new) in
      record {
        region = subst (λ s. IsRegion plan s new) (append_assoc u xs ys) after.region;
        new = new-joins plan.patterns u xs ys ps qs before.new after.new;
      }

  pub takes-none : {V : Type 0} (Tells : V → ℕ → ℕ → V → Type 0) (events : V) (region : List ℕ) → Takes Tells events events (Feeds program region region [])
  takes-none Tells events region = record { pairs = []; through = still; holds = feeds-none region }

  pub takes-more : {V : Type 0} (Tells : V → ℕ → ℕ → V → Type 0) (start middle end : V) (old between new : List ℕ) (xs ys : List ℕ) → Each (λ b. b < 256) xs →
      Takes Tells start middle (Feeds program old between xs) → Takes Tells middle end (Feeds program between new ys) → Takes Tells start end (Feeds program old new (xs ++ ys))
  takes-more Tells start middle end old between new xs ys small first second = record {
    pairs = first.pairs ++ second.pairs;
    through = through-join Tells first.through second.through;
    holds = feeds-more old between new xs ys first.pairs second.pairs small first.holds second.holds;
  }

-- The end.
pub end-finishes : (program : Tables) (l : Laid) (fits : FitsLayout program l) (spot : Spot) (region : List ℕ) (ks : List KeptOf) (ends : List EndsAbout) →
    ((u : List ℕ) → Each (λ b. b < 256) u → region_offset region ≡ length u → slice_range region 8 72 ≡ last_bytes 64 u → IsSpot u spot) →
    EndsChains program l region spot ends → AreRead l region program.identifiers ks → length ks ≡ length program.identifiers → length ends ≡ length program.identifiers →
    Finishes program region (pairs_at BeforeLastByte program.identifiers ks ends (spot.at - 1) ++ pairs_at AtEnd program.identifiers ks ends spot.at)
end-finishes program l fits spot region ks ends stands closes read kept_count ends_count plan u runs each is =
    let same : l ≡ plan_layout plan = plan-laid program plan runs l fits in
    let P : List Pattern = plan.patterns in
    let xs : List Identifier = program.identifiers in
    let here : IsSpot u spot = stands u each is.offset is.history in
    let about : AreLastEnds P u xs ends = closes plan u runs here (subst (λ m. AreKept plan m region 0 (length program.roles) u) (sym same) (region-kept plan u region 0 (length program.roles) is)) in
    let kept = kept-read program plan runs u region region ks is (λ k below. refl) (subst (λ m. AreRead m region xs ks) same read) in
    let lasts : List Bool = told_values BeforeLastByte xs ks ends in
    let lates : List Bool = told_values AtEnd xs ks ends in
    let told_last = tell-each BeforeLastByte xs ks ends kept_count ends_count (IsLeftToEnd P u) (λ i x k e at at' at''. (kept i x k at at').last) in
    let told_end = tell-each AtEnd xs ks ends kept_count ends_count (IsNewAtEnd P u) (λ i x k e at at' at''.
    subst (λ single. (tells_end single (plain_kept k) e.behind ≡ true) ↔ IsNewAtEnd P u x.id.0) (sym (runs.single i x at))
    (end-settled P u x.id.0 (plain_kept k) e.behind (kept i x k at at') (about i x e at at''))) in
    subst (λ n. IsLast P u (pairs_at BeforeLastByte xs ks ends (n - 1) ++ pairs_at AtEnd xs ks ends n)) (sym here.offset)
    (last-reports P u (ids_of xs) lasts lates (are-identifiers program plan runs) told_last told_end)

-- Equal regions go on alike.
pub feeds-alike : (program : Tables) (old new bytes : List ℕ) (pairs : List Pair) → Feeds program old new bytes pairs → GoesOnAlike program old bytes
feeds-alike program old new bytes pairs feeds plan u v told told' runs each each' is is' told_is told_is' = record {
  pairs = pairs;
  first = (feeds plan u told runs each is told_is).new;
  second = (feeds plan v told' runs each' is' told_is').new;
}

pub finishes-alike : (program : Tables) (region : List ℕ) (pairs : List Pair) → Finishes program region pairs → EndsAlike program region
finishes-alike program region pairs finishes plan u v runs each each' is is' = record {
  pairs = pairs;
  first = finishes plan u runs each is;
  second = finishes plan v runs each' is';
}
