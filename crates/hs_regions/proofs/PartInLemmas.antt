-- What is kept of nodes lies in a region so that the packing knows its part.
use Rattle.std.proofs.Common.{◌≡◌, ◌↔◌, ℕ, suc, ◌+◌, ◌-◌, ◌<◌, ◌≤◌, Bool, true, false, IsTrue, List, [], length, Option, Some, None, IfSome, slice_get, sym, subst, ◌∙◌, inl, inr, arith}
use Rattle.std.specs.Prelude.{slice_index}
use Rattle.std.proofs.lemmas.Bool.{cases_lt}
use Rattle.hs_base.specs.Literals.{LiteralByte}
use Rattle.hs_base.specs.Regions.{Place, Plan, list_places, place_size, plan_size, plan_starts}
use Rattle.hs_base.proofs.RegionLemmas.{placed-end, size-above}
use Rattle.hs_engine.specs.Engines.{Meaning}
use Rattle.hs_kept.specs.Packing.{unpacked_size}
use Rattle.hs_kept.specs.Parts.{IsPartIn}
use Rattle.hs_kept.specs.declared.packing.Packing.{Packing}
use Rattle.hs_kept.proofs.PlacedLemmas.{kept-placed}
use Rattle.hs_layout.specs.Layouts.{Laid}
use Rattle.hs_nodes.specs.declared.graph.Graph.{Graph}
use Rattle.hs_nodes.proofs.FieldLemmas.{placed}
use Rattle.hs_regions.specs.Checking.{AreCopiesIn, ArePartsIn}
use Rattle.hs_regions.specs.Packed.{RunsPacked}
use Rattle.hs_regions.proofs.ExactLemmas.{copy-place, high-is, low-is}
use Rattle.hs_regions.proofs.FaultLemmas.{kind-sized}
use Rattle.hs_regions.proofs.KeptFaultLemmas.{part-in, piece-of}

-- the truth value of a test that a part passes, or that isn't asked
pub stands-not : {P : Type 0} (low bound : ℕ) (b : Bool) → b ≡ false → (IsTrue b ↔ (low < bound → P)) → (low < bound) × (P → ⊥)
stands-not {P} low bound b is law = elim (cases_lt low bound) [
  | inl below ↦ (below, λ p. absurd (let e : true ≡ false = sym (law.1 (λ _. p)) ∙ is in cc))
  | inr above ↦ absurd (let e : true ≡ false = sym (law.1 (λ below. absurd (omega (arith, below, above)))) ∙ is in cc)
]

pub part-as : (packing : Packing) (low low' high high' : ℕ) → low ≡ low' → high ≡ high' → IsPartIn packing low' high' → IsPartIn packing low high
part-as packing low low' high high' e f part = subst (λ n. IsPartIn packing n high) (sym e) (subst (λ n. IsPartIn packing low' n) (sym f) part)

pub some-both : {P Q R : ℕ → Type 0} (o : Option ℕ) → ((n : ℕ) → P n → Q n → R n) → IfSome o P → IfSome o Q → IfSome o R
some-both None f is other = is
some-both (Some n) f is other = f n is other

module _ {E : Type 0} (meaning : E → Meaning) (graph : Graph E) (l : Laid) (packing : Packing) (literals : List (List LiteralByte)) (plan : Plan) (runs : RunsPacked meaning graph l packing literals plan) where
  abbrev start : ℕ → ℕ
  start k = slice_index (plan_starts plan) k

  piece-in : (k : ℕ) (p : Place) → slice_get (list_places plan) k ≡ Some p → IsPartIn packing (start k) (start (k + 1))
  piece-in k p there =
      let (form, low, high, at) = kept-placed plan runs.packing_for.forms runs.packing_for.are k p there in
      let next : start (k + 1) ≡ start k + place_size p = placed-end plan k (start k) (start (k + 1)) p (placed plan k p there) in
      let above : start (k + 1) ≤ plan_size plan = size-above plan (suc k) (start (k + 1)) (placed plan k p there).end in
      let within : start k + place_size p ≤ unpacked_size packing = omega (arith, next, above, runs.packing_for.region_size) in
      subst (λ n. IsPartIn packing (start k) n) (sym next)
      (part-in packing plan runs.packing_for k p form (start k) low (piece-of packing plan runs.packing_for k low high p form at) within)

  pub parts-in : ArePartsIn meaning graph packing
  parts-in = record {
    parts = λ k node there some.
        let has = runs.runs.runs.fields k node there some in
        part-as packing node.start (start has.role) node.end (start (has.role + 1)) has.own.start has.own.end (piece-in has.role has.p has.runs.place);
    sized = λ k node there. kind-sized meaning graph.table.engines.items (length literals) node.kind (node.end - node.start) (runs.sound.table.kinds k node there);
  }

  pub copies-in : AreCopiesIn graph l packing
  copies-in i copy node is of some =
      let (p, there) = copy-place meaning graph literals l plan runs.sound runs.runs [] 0 i copy node is of in
      part-as packing (slice_index l.starts copy.field) (start copy.field) (slice_index l.starts (copy.field + 1)) (start (copy.field + 1))
      (low-is meaning graph literals l plan runs.sound runs.runs [] 0 i copy node is of)
      (high-is meaning graph literals l plan runs.sound runs.runs [] 0 i copy node is of)
      (piece-in copy.field p there)
