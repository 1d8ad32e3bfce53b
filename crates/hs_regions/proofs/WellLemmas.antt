-- What may be kept of a region of a graph is what is well kept for the plan that it runs.
use Rattle.std.proofs.Common.{◌≡◌, ◌↔◌, ℕ, suc, ◌+◌, ◌-◌, ◌<◌, ◌≤◌, List, [], ◌∷◌, length, take, get_or, IfSome, Option, Some, None, IsNone, refl, sym, ap, subst, ◌∙◌, arith}
use Rattle.std.specs.Prelude.{slice_index}
use Rattle.hs_base.specs.Lists.{Each}
use Rattle.hs_base.specs.Literals.{LiteralByte}
use Rattle.hs_base.specs.Regions.{Plan, IsHeader, IsWellFormed, fields_at, plan_fields_at, region_offset}
use Rattle.hs_engine.specs.Engines.{Meaning}
use Rattle.hs_kept.specs.KeptRegions.{IsWellKept, kept_size}
use Rattle.hs_kept.specs.Packing.{AreNumbers, packed_size, unpacked, unpacked_size}
use Rattle.hs_kept.specs.PackingLaws.{UnpacksWell}
use Rattle.hs_kept.specs.declared.packing.Packing.{Packing}
use Rattle.hs_kept.proofs.HeaderLemmas.{header-front, offset-front}
use Rattle.hs_kept.proofs.KeptLemmas.{size-by, well-parts_by}
use Rattle.hs_kept.proofs.PackingLemmas.{unpacked-bytes, unpacked-header, unpacked-size, well-kept-unpacks-well}
use Rattle.hs_kept.proofs.PlacedLemmas.{header-within, kept-high, kept-within}
use Rattle.hs_layout.specs.HeaderFaults as headers
use Rattle.hs_layout.specs.Layouts.{Laid, laid_size}
use Rattle.hs_nodes.specs.WellRegions.{IsWellRegion}
use Rattle.hs_nodes.specs.declared.graph.Graph.{Graph}
use Rattle.hs_nodes.proofs.PlanLemmas.{plan-size}
use Rattle.hs_regions.specs.Faults as faults
use Rattle.hs_regions.specs.Faults.{AreFieldsWellBefore}
use Rattle.hs_regions.specs.KeptFaults as kept_faults
use Rattle.hs_regions.specs.KeptFaults.{IsFirstFault, IsPartFault}
use Rattle.hs_regions.specs.Packed.{IsWellPacked, RunsPacked, RunsSomePacked}
use Rattle.hs_regions.specs.RegionLaws.{FaultsAreNotWell, GraphKeepsWell}
use Rattle.hs_regions.proofs.ExactLemmas.{regions-exact}

-- no header has a fault and keeps to its rules
header-never : (singles identifiers : ℕ) (kept : List ℕ) (place : ℕ) → headers.IsHeaderFault singles identifiers kept place → IsHeader singles identifiers kept → ⊥
header-never singles identifiers kept place (headers.offset is great) well = absurd (omega (arith, great, well.offset))
header-never singles identifiers kept place (headers.history is small breaks) well = breaks well.history
header-never singles identifiers kept place (headers.told is small early breaks) well = breaks well.told
header-never singles identifiers kept place (headers.here is small early spare breaks) well = breaks well.here
header-never singles identifiers kept place (headers.last is small early spare spare' breaks) well = breaks well.last

pub fault-never : FaultsAreNotWell
fault-never plan kept at (kept_faults.header fault) well = header-never (length plan.singles) (length plan.identifiers) kept at fault well.header
fault-never plan kept at (kept_faults.part header fault) well = fault.breaks (well-parts_by plan kept fault.forms fault.are well fault.number at fault.high fault.place fault.form fault.placed)

pub keeps-well : {E : Type 0} (meaning : E → Meaning) → GraphKeepsWell meaning
keeps-well meaning graph literals l packing plan kept runs small = (
  λ packed.
      law.1 (record { len = packed.len; numbers = packed.numbers; well = (exact (unpacked-bytes packing plan runs.packing_for kept packed.len packed.numbers small)).0 packed.well }),
  λ well. let u = law.0 well in record { len = u.len; numbers = u.numbers; well = (exact u.well.bytes).1 u.well },
)
  where
    law : IsWellKept plan kept ↔ UnpacksWell packing plan kept
    law = well-kept-unpacks-well packing plan kept runs.packing_for small

    exact : Each (λ b. b < 256) (unpacked packing kept) → IsWellRegion meaning graph l (unpacked packing kept) ↔ IsWellFormed plan (unpacked packing kept)
    exact each = regions-exact meaning graph literals l plan (unpacked packing kept) runs.sound runs.runs each

module _ {E : Type 0} (meaning : E → Meaning) (graph : Graph E) (l : Laid) (packing : Packing) (literals : List (List LiteralByte)) (plan : Plan) (runs : RunsPacked meaning graph l packing literals plan) (kept : List ℕ) (sized : length kept ≡ packed_size packing) where
  -- what is unpacked has the same header
  same-header : take (plan_fields_at plan) kept ≡ take (plan_fields_at plan) (unpacked packing kept)
  same-header = sym (unpacked-header packing plan kept runs.packing_for sized)

  pub same-offset : region_offset kept ≡ region_offset (unpacked packing kept)
  same-offset = offset-front (plan_fields_at plan) kept (unpacked packing kept) same-header (omega arith)

  -- as many bytes as the layout has
  pub laid-is : laid_size l ≡ unpacked_size packing
  laid-is = ap laid_size runs.runs.laid ∙ plan-size plan ∙ sym runs.packing_for.region_size

  -- where no field breaks its rule, and each number is that of a state
  pub well-packed : IsHeader l.singles l.identifiers kept → AreNumbers packing kept → AreFieldsWellBefore meaning graph (unpacked packing kept) (region_offset kept) l (unpacked_size packing + 1) → IsWellPacked meaning graph l packing kept
  well-packed header numbers wells = record {
    len = sized;
    numbers = numbers;
    well = record {
      fits = record {
        sized = unpacked-size packing plan runs.packing_for kept sized numbers ∙ sym (ap laid_size runs.runs.laid ∙ plan-size plan);
        nodes = λ k node there.
            let order : node.start ≤ node.end = runs.sound.table.order k node there in
            let inside : node.end ≤ laid_size l = runs.sound.table.within k node there in
            subst (λ n. faults.IsWellIn meaning graph (unpacked packing kept) n node.kind node.start node.end) same-offset
            (wells node.kind node.start node.end (faults.own k node there refl refl refl) (omega (arith, order, inside, laid-is)));
      };
      copies = λ i copy node there of_node.
          let sound = runs.sound.fits.copies i copy there in
          let inside : slice_index l.starts copy.field ≤ laid_size l =
          runs.sound.fits.apart.rising copy.field (length l.starts - 1) (omega (arith, sound.within)) (omega (arith, sound.within)) in
          let low : ℕ = slice_index l.starts copy.field in
          let high : ℕ = slice_index l.starts (copy.field + 1) in
          subst (λ n. faults.IsWellIn meaning graph (unpacked packing kept) n node.kind low high) same-offset
          (wells node.kind low high (faults.copied i copy node there of_node refl refl refl) (omega (arith, inside, laid-is)));
      header =
          subst (λ (m : Laid). IsHeader m.singles m.identifiers (unpacked packing kept)) (sym runs.runs.laid)
          (header-front (plan_fields_at plan) kept (unpacked packing kept) same-header (length plan.singles) (length plan.identifiers) (omega arith)
          (subst (λ (m : Laid). IsHeader m.singles m.identifiers kept) runs.runs.laid header));
    };
  }

none-by : {P : ℕ → Type 0} (found : Option ℕ) → IfSome found P → ((place : ℕ) → P place → ⊥) → IsNone found
none-by None first never = refl
none-by (Some place) first never = absurd (never place first)

-- where bytes may be kept nothing breaks its rule
pub none-found : {E : Type 0} (meaning : E → Meaning) (graph : Graph E) (l : Laid) (packing : Packing) (kept : List ℕ) (found : Option ℕ) → RunsSomePacked meaning graph l packing → Each (λ b. b < 256) kept →
    IfSome found (IsFirstFault meaning graph l packing kept) → IsWellPacked meaning graph l packing kept → IsNone found
none-found meaning graph l packing kept found some small first packed =
    let well = (keeps-well meaning graph some.literals l packing some.plan kept some.is small).0 packed in
    none-by found first (λ place fault. fault-never some.plan kept place (fault some.literals some.plan some.is) well)

pub each-by : (bytes : List ℕ) → ((i : ℕ) → get_or bytes i 0 < 256) → Each (λ b. b < 256) bytes
each-by [] all = tt
each-by (b ∷ bytes) all = (all 0, each-by bytes (λ i. all (suc i)))

-- of numbers that are the same ones
pub counts-as : (P : ℕ → ℕ → Type 0) (a b c d : ℕ) → a ≡ c → b ≡ d → P c d → P a b
counts-as P a b c d e f holds = subst (λ n. P n b) (sym e) (subst (λ n. P c n) (sym f) holds)

module _ {E : Type 0} (meaning : E → Meaning) (graph : Graph E) (l : Laid) (packing : Packing) (literals : List (List LiteralByte)) (plan : Plan) (runs : RunsPacked meaning graph l packing literals plan) (kept : List ℕ) (sized : length kept ≡ packed_size packing) where
  -- there is a whole header
  pub header-room : fields_at l.singles l.identifiers ≤ length kept
  header-room =
      let room : plan_fields_at plan ≤ kept_size plan runs.packing_for.forms = header-within plan runs.packing_for.forms runs.packing_for.are in
      subst (λ (m : Laid). fields_at m.singles m.identifiers ≤ length kept) (sym runs.runs.laid) (omega (arith, room, runs.packing_for.size, sized))

  -- the header of the layout is that of the plan
  pub plan-counts : (P : ℕ → ℕ → Type 0) → P l.singles l.identifiers → P (length plan.singles) (length plan.identifiers)
  plan-counts P holds = subst (λ (m : Laid). P m.singles m.identifiers) runs.runs.laid holds

  -- a part begins within the bytes
  pub part-within : (place : ℕ) → IsPartFault plan kept place → place ≤ 16777216
  part-within place fault =
      let high = kept-high plan fault.forms fault.are fault.number place fault.high fault.place fault.form fault.placed in
      let below = kept-within plan fault.forms fault.are fault.number place fault.high fault.place fault.form fault.placed in
      let same = size-by plan fault.forms runs.packing_for.forms fault.are runs.packing_for.are in
      omega (arith, high, below, same, runs.packing_for.size, packing.small)
