-- From whole regions to what streams keep of them, and back.
use Rattle.std.proofs.Common.{◌≡◌, ◌↔◌, ℕ, ◌-◌, ◌<◌, ◌==◌, true, false, List, [], ◌∷◌, ◌++◌, refl, length, sym, ap, subst, ◌∙◌, arith}
use Rattle.std.proofs.lemmas.Bool.{ne_eqb}
use Rattle.std.proofs.lemmas.List.{append-nil}
use Rattle.hs_base.specs.Lists.{Each}
use Rattle.hs_base.specs.Regions.{Plan, plan_fields_at, region_offset}
use Rattle.hs_base.specs.Told.{Pair, IsNew}
use Rattle.hs_base.proofs.NewLemmas.{new_nothing}
use Rattle.hs_compile.specs.Databases.{Compiled, IsDatabaseOf, IsWholeDatabase, graph_of, layout_of, literals_in, packing_of}
use Rattle.hs_kept.specs.KeptRegions.{IsWellKept}
use Rattle.hs_kept.specs.Packing.{IsPackedOf, unpacked, unpacked_size}
use Rattle.hs_kept.specs.PackingLaws.{PacksWell}
use Rattle.hs_kept.proofs.HeaderLemmas.{offset-front}
use Rattle.hs_kept.proofs.PackingLemmas.{kept-unpacks, regions-pack, unpacked-header, unpacked-size, well-formed-packs-well}
use Rattle.hs_literals.specs.Held.{held}
use Rattle.hs_reports.specs.Events.{Takes}
use Rattle.hs_rose.specs.PieceEngines.{piece_meaning}
use Rattle.hs_regions.proofs.WellLemmas.{keeps-well}
use Rattle.hs_stream.specs.Foreign.{MayEnd, MayLead}
use Rattle.hs_stream.specs.Leading.{IsBehind, IsRegionOf}
use Rattle.hs_stream.specs.Scanning.{IsScanned, IsWholeRegionOf, MayScan, MayScanEnd}
use Rattle.hs_stream.specs.Telling.{MayTell}
use Rattle.hs_stream.proofs.RunningLemmas.{plan-packed, region-exact}

module _ (db : Compiled) where
  abbrev whole : List ℕ → List ℕ
  whole kept = unpacked (packing_of db) kept

  -- what may be kept is what is well kept for the plan
  pub kept-exact : (plan : Plan) → IsDatabaseOf db plan → (kept : List ℕ) → Each (λ b. b < 256) kept → IsRegionOf db kept ↔ IsWellKept plan kept
  kept-exact plan is kept small = keeps-well piece_meaning (graph_of db) (held (literals_in db)) (layout_of db) (packing_of db) plan kept (plan-packed db plan is) small

  -- the region of what is kept of a stream is that of the stream
  unpack-behind : (plan : Plan) (u kept : List ℕ) → IsDatabaseOf db plan → IsBehind plan u kept → IsScanned plan u (whole kept)
  unpack-behind plan u kept is behind = record { bytes = behind.bytes; region = (kept-unpacks (packing_of db) plan u kept is.packing behind.region).1 }

  -- and packed it is what is kept
  pack-behind : (plan : Plan) (u region kept : List ℕ) → IsDatabaseOf db plan → Each (λ b. b < 256) kept → IsPackedOf (packing_of db) region kept → IsScanned plan u region → IsBehind plan u kept
  pack-behind plan u region kept is small packed scanned =
      record { bytes = scanned.bytes; region = regions-pack (packing_of db) plan u region kept is.packing scanned.bytes small scanned.region packed }

  pub same-offset : IsWholeDatabase db → (kept : List ℕ) → IsRegionOf db kept → region_offset (whole kept) ≡ region_offset kept
  same-offset all kept well =
      offset-front (plan_fields_at all.plan) (whole kept) kept (unpacked-header (packing_of db) all.plan kept all.is_of.packing well.len) (omega arith)

  module _ (all : IsWholeDatabase db) (region kept : List ℕ) (small : Each (λ b. b < 256) region) (small_kept : Each (λ b. b < 256) kept) (well : IsWholeRegionOf db region) (packed : IsPackedOf (packing_of db) region kept) where
    packs : PacksWell all.plan region kept
    packs =
        well-formed-packs-well (packing_of db) all.plan region kept all.is_of.packing small_kept ((region-exact db all.plan all.is_of region small).0 well) packed

    pub packed-well : IsRegionOf db kept
    packed-well = (kept-exact all.plan all.is_of kept small_kept).1 packs.well

    pub packed-offset : region_offset kept ≡ region_offset region
    packed-offset = offset-front (plan_fields_at all.plan) kept region packs.header (omega arith)

    pub scan-leads : (old bytes : List ℕ) (pairs : List Pair) → IsRegionOf db old → MayScan db (whole old) region bytes pairs → MayLead db old kept bytes pairs
    scan-leads old bytes pairs well_old scan = record {
      leads = λ plan u told is behind told_is.
          let on = scan.scans plan u told is (unpack-behind plan u old is behind) told_is in
          record { behind = pack-behind plan (u ++ bytes) region kept is small_kept packed on.scanned; reports = on.reports };
      tells =
          subst (λ n. MayTell db n (region_offset kept) pairs) (same-offset all old well_old)
          (subst (λ n. MayTell db (region_offset (whole old)) n pairs) (sym packed-offset) scan.tells);
    }

  -- as many bytes
  pub whole-size : IsWholeDatabase db → (kept : List ℕ) → IsRegionOf db kept → length (whole kept) ≡ unpacked_size (packing_of db)
  whole-size all kept well = unpacked-size (packing_of db) all.plan all.is_of.packing kept well.len well.numbers ∙ sym all.is_of.packing.region_size

  pub scan-ends : (kept : List ℕ) (pairs : List Pair) → IsWholeDatabase db → IsRegionOf db kept → MayScanEnd db (whole kept) pairs → MayEnd db kept pairs
  scan-ends kept pairs all well scan = record {
    ends = λ plan u is behind. scan.ends plan u is (unpack-behind plan u kept is behind);
    tells = subst (λ n. MayTell db (n - 1) n pairs) (same-offset all kept well) scan.tells;
  }

-- nothing is written, and nothing is told
pub leads-none : (db : Compiled) (kept bytes : List ℕ) → bytes ≡ [] → MayLead db kept kept bytes []
leads-none db kept bytes none = record {
  leads = λ plan u told is behind told_is.
      let same : u ≡ u ++ bytes = sym (ap (λ bs. u ++ bs) none ∙ append-nil u) in
      record {
        behind = subst (λ s. IsBehind plan s kept) same behind;
        reports = subst (λ bs. IsNew plan.patterns u bs []) (sym none) (new_nothing plan.patterns u told told_is);
      };
  tells = record { named = λ plan is. tt; bounded = tt; rising = tt };
}

pub takes-as : {V : Type 0} (Tells : V → ℕ → ℕ → V → Type 0) {start end : V} {P Q : List Pair → Type 0} → ((pairs : List Pair) → P pairs → Q pairs) → Takes Tells start end P → Takes Tells start end Q
takes-as Tells f took = record { pairs = took.pairs; through = took.through; holds = f took.pairs took.holds }

pub empty-is : (bytes : List ℕ) → (length bytes == 0) ≡ true → bytes ≡ []
empty-is [] is = refl
empty-is (b ∷ bytes) is = absurd (let e : true ≡ false = sym is ∙ ne_eqb (length (b ∷ bytes)) 0 (λ z. absurd (omega (arith, z))) in cc)
