-- The layout of a program is that of the plan that it runs.
use Rattle.std.proofs.Common.{◌≡◌, ℕ, suc, ◌+◌, ◌-◌, ◌<◌, List, length, map, Some, slice_get, sym, ap, subst, ◌∙◌, arith}
use Rattle.std.specs.Prelude.{slice_index, slice_range}
use Rattle.std.proofs.lemmas.List.{length-map}
use Rattle.std.proofs.lemmas.Option.{slice_get-get_or, slice_get_within, get_or_from_slice_get}
use Rattle.hs_base.specs.KeptPieces.{IsKeptAs}
use Rattle.hs_base.specs.Regions.{Place, Plan, IsPlaced, IsRegion, fields_at, list_places, place_form, place_size, plan_size, plan_starts}
use Rattle.hs_base.proofs.SumLemmas.{sums-size}
use Rattle.hs_layout.specs.Layouts.{Laid, laid_size, layout_of}
use Rattle.hs_rose.specs.Identifiers.{singles_of}
use Rattle.hs_run.specs.Chains.{AreKept}
use Rattle.hs_run.specs.Keeping.{HasBits}
use Rattle.hs_run.specs.Programs.{FitsLayout, RunsPlan, sizes_of}
use Rattle.hs_rose.specs.Programs.{Tables}

-- the layout of the regions of a plan
abbrev pub plan_layout : Plan → Laid
plan_layout plan = layout_of (length plan.singles) (length plan.identifiers) (map place_size (list_places plan))

module _ (program : Tables) (plan : Plan) (runs : RunsPlan program plan) where
  pub singles-count : length (singles_of program.identifiers) ≡ length plan.singles
  singles-count = sym (length-map (singles_of program.identifiers) (λ x. x.id.0)) ∙ ap length runs.singles

  pub ids-count : length program.identifiers ≡ length plan.identifiers
  ids-count = sym (length-map program.identifiers (λ x. x.id.0)) ∙ ap length runs.ids

  pub roles-count : length program.roles ≡ length (list_places plan)
  roles-count =
      sym (length-map program.roles (λ r. r.field_size)) ∙ (ap length runs.sizes ∙ length-map (list_places plan) place_size)

  pub plan-laid : (l : Laid) → FitsLayout program l → l ≡ plan_layout plan
  plan-laid l fits =
      fits.laid
      ∙ (ap (λ n. layout_of n (length program.identifiers) (sizes_of program.roles)) singles-count
      ∙ (ap (λ n. layout_of (length plan.singles) n (sizes_of program.roles)) ids-count
      ∙ ap (λ ns. layout_of (length plan.singles) (length plan.identifiers) ns) runs.sizes))

pub has-bits : (program : Tables) (l : Laid) → FitsLayout program l → HasBits l program.identifiers
has-bits program l fits = record { singles = ap (λ x. x.singles) fits.laid; all = ap (λ x. x.identifiers) fits.laid }

-- the fields by number, and by where they begin

starts-count : (plan : Plan) → length (plan_starts plan) ≡ suc (length (list_places plan))
starts-count plan =
    sums-size (fields_at (length plan.singles) (length plan.identifiers)) (map place_size (list_places plan)) ∙ ap suc (length-map (list_places plan) place_size)

pub placed : (plan : Plan) (k : ℕ) (p : Place) → slice_get (list_places plan) k ≡ Some p → IsPlaced plan k p (slice_index (plan_starts plan) k) (slice_index (plan_starts plan) (k + 1))
placed plan k p place =
    let below : k < length (list_places plan) = slice_get_within (list_places plan) k p place in
    let e : suc k ≡ k + 1 = omega arith in
    record {
      piece = place;
      begin = slice_get-get_or (plan_starts plan) k 0 (omega (arith, below, starts-count plan));
      end = ap (slice_get (plan_starts plan)) e ∙ slice_get-get_or (plan_starts plan) (k + 1) 0 (omega (arith, below, starts-count plan));
    }

pub region-kept : (plan : Plan) (u region : List ℕ) (from to : ℕ) → IsRegion plan u region → AreKept plan (plan_layout plan) region from to u
region-kept plan u region from to is k p low high place =
    is.fields k (slice_index (plan_starts plan) k) (slice_index (plan_starts plan) (k + 1)) p (placed plan k p place)

pub kept-region : (plan : Plan) (u region : List ℕ) (count : ℕ) → count ≡ length (list_places plan) → AreKept plan (plan_layout plan) region 0 count u →
    (k low high : ℕ) (p : Place) → IsPlaced plan k p low high → IsKeptAs (place_form p) p.pieces (slice_range region low high) u
kept-region plan u region count all kept k low high p is =
    let below : k < length (list_places plan) = slice_get_within (list_places plan) k p is.piece in
    let e : suc k ≡ k + 1 = omega arith in
    let a : slice_index (plan_starts plan) k ≡ low = get_or_from_slice_get (plan_starts plan) k low 0 is.begin in
    let b : slice_index (plan_starts plan) (k + 1) ≡ high = sym (ap (slice_index (plan_starts plan)) e) ∙ get_or_from_slice_get (plan_starts plan) (suc k) high 0 is.end in
    subst (λ n. IsKeptAs (place_form p) p.pieces (slice_range region n high) u) a
    (subst (λ n. IsKeptAs (place_form p) p.pieces (slice_range region (slice_index (plan_starts plan) k) n) u) b
    (kept k p (omega arith) (omega (arith, below, all)) is.piece))

pub plan-size : (plan : Plan) → laid_size (plan_layout plan) ≡ plan_size plan
plan-size plan =
    let sizes = map place_size (list_places plan) in
    let e : length (plan_starts plan) - 1 ≡ length sizes = omega (arith, sums-size (fields_at (length plan.singles) (length plan.identifiers)) sizes) in
    ap (slice_index (plan_starts plan)) e
