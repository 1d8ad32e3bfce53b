-- From the region of a stream to that of the longer one, by a write.
use Rattle.std.proofs.Common.{◌≡◌, ℕ, ◌-◌, ◌*◌, ◌/◌, ◌<◌, ◌≤◌, true, false, List, [], ◌∷◌, ◌++◌, length, eqb, get_or, refl, sym, ap, subst, ◌∙◌, inl, inr, arith}
use Rattle.std.specs.Prelude.{slice_index, slice_range}
use Rattle.std.proofs.lemmas.Bool.{eqb-false, eqb-true}
use Rattle.std.proofs.lemmas.List.{append-nil}
use Rattle.hs_base.specs.Bits.{has_bit}
use Rattle.hs_base.specs.Literals.{LiteralByte}
use Rattle.hs_base.specs.Offsets.{greatest_offset}
use Rattle.hs_base.specs.Regions.{IsHeader, IsRegion, fields_at, region_offset}
use Rattle.hs_base.specs.Told.{Pair, IsNew}
use Rattle.hs_base.proofs.NewLemmas.{new_nothing}
use Rattle.hs_base.proofs.RegionLemmas.{get-range}
use Rattle.hs_engine.specs.Engines.{Meaning}
use Rattle.hs_layout.specs.Layouts.{Laid}
use Rattle.hs_nodes.specs.Graphs.{FitsLayout}
use Rattle.hs_nodes.specs.Nodes.{IsWellPart}
use Rattle.hs_nodes.specs.Walks.{AreNodesWell, IsOutside, node_part}
use Rattle.hs_nodes.specs.declared.graph.Graph.{Graph}
use Rattle.hs_reports.specs.Identifiers.{numbers_of}
use Rattle.hs_reports.proofs.PairsLemmas.{pairs-none}
use Rattle.hs_scan.specs.Feeding.{Feeds, Finishes, EndsAlike, GoesOnAlike}
use Rattle.hs_nodes.specs.WellRegions.{AreCopiesWell, FitsRegion, IsWellRegion}
use Rattle.hs_keeping.specs.Keeping.{IsSpareBit}
use Rattle.hs_scan.specs.Past.{HasNoEarly}
use Rattle.hs_scan.specs.Scans.{IsWritten, Stand}
use Rattle.hs_scan.proofs.WritingLemmas.{bit-same}

pub no-bytes : (bytes : List ℕ) → eqb (length bytes) 0 ≡ true → bytes ≡ []
no-bytes [] e = refl
no-bytes (b ∷ bytes) e = absurd (let zero_is = eqb-true (length (b ∷ bytes)) 0 e in omega (arith, zero_is))

pub some-bytes : (bytes : List ℕ) → eqb (length bytes) 0 ≡ false → bytes ≡ [] → ⊥
some-bytes bytes e none = eqb-false (length bytes) 0 e (ap length none)

module _ {E : Type 0} (meaning : E → Meaning) (graph : Graph E) (literals : List (List LiteralByte)) (l : Laid) where
  pub feeds-none : (region bytes : List ℕ) → bytes ≡ [] → Feeds meaning graph literals l region region bytes []
  feeds-none region bytes none = record {
    pairs_are = pairs-none (numbers_of graph.identifiers.items) (region_offset region) (region_offset region);
    feeds = λ plan u list runs each is told.
        record {
          region = subst (λ v. IsRegion plan v region) (sym (ap (λ bs. u ++ bs) none ∙ append-nil u)) is;
          new = subst (λ bs. IsNew plan.patterns u bs []) (sym none) (new_nothing plan.patterns u list told);
        };
  }

  pub feeds-alike : (old new bytes : List ℕ) (pairs : List Pair) → Feeds meaning graph literals l old new bytes pairs → GoesOnAlike meaning graph literals l old bytes
  feeds-alike old new bytes pairs feeds plan u v list list' runs each each' is is' told told' = record {
    pairs = pairs;
    first = (feeds.feeds plan u list runs each is told).new;
    second = (feeds.feeds plan v list' runs each' is' told').new;
  }

  pub finishes-alike : (region : List ℕ) (pairs : List Pair) → Finishes meaning graph literals l region pairs → EndsAlike meaning graph literals l region
  finishes-alike region pairs finishes plan u v runs each each' is is' = record { pairs = pairs; first = finishes.finishes plan u runs each is; second = finishes.finishes plan v runs each' is' }

module _ {E : Type 0} (meaning : E → Meaning) (graph : Graph E) (l : Laid) (fits : FitsLayout graph l) where
  -- bits of the header that nothing stands for stay over a scan
  pub spares-kept : (r0 r1 : List ℕ) → ((i : ℕ) → IsOutside graph.table.nodes.items i → slice_index r1 i ≡ slice_index r0 i) → (k : ℕ) → IsSpareBit l k → has_bit r1 k ≡ has_bit r0 k
  spares-kept r0 r1 outside k is =
      bit-same r1 r0 k (outside (k / 8) (λ j node at. inl (let f : fields_at l.singles l.identifiers ≤ node.start = fits.behind j node at in let high : k < 8 * fields_at l.singles l.identifiers = below is in omega (arith, f, high))))
    where
      below : IsSpareBit l k → k < 8 * fields_at l.singles l.identifiers
      below (inl (low, high)) = omega (arith, high)
      below (inr (inl (low, high))) = omega (arith, high)
      below (inr (inr (low, high))) = high

  module _ (s : Stand) (last region : List ℕ) (written : IsWritten graph l s last region) (nodes : AreNodesWell meaning graph.table s.region s.at) where
    nodes-well : AreNodesWell meaning graph.table region (region_offset region)
    nodes-well k node at =
        subst (λ n. IsWellPart meaning graph.table.engines.items node.kind (node_part region node) n) (sym written.offset)
        (subst (λ part. IsWellPart meaning graph.table.engines.items node.kind part s.at) (sym (written.fields k node at)) (nodes k node at))

    pub written-fits : FitsRegion meaning graph l region
    written-fits = record { sized = written.len; nodes = nodes-well }

    copies-well : AreCopiesWell meaning graph l region (region_offset region)
    copies-well i copy node at there =
        subst (λ part. IsWellPart meaning graph.table.engines.items node.kind part (region_offset region)) (sym (written.copied i copy node at there)) (nodes-well copy.node node there)

    header : s.at ≤ greatest_offset → HasNoEarly s.at s.past → ((k : ℕ) → IsSpareBit l k → has_bit region k ≡ false) → IsHeader l.singles l.identifiers region
    header small early spare = record {
      offset = omega (arith, small, written.offset);
      history = λ i below.
          let inside : i < 72 - 8 = omega (arith, below) in
          sym (get-range region 8 72 i inside) ∙ (ap (λ xs. get_or xs i 0) written.past ∙ early i (omega (arith, below, written.offset)));
      told = λ k low high. spare k (inl (low, high));
      here = λ k low high. spare k (inr (inl (low, high)));
      last = λ k low high. spare k (inr (inr (low, high)));
    }

    pub written-well : s.at ≤ greatest_offset → HasNoEarly s.at s.past → ((k : ℕ) → IsSpareBit l k → has_bit region k ≡ false) → IsWellRegion meaning graph l region
    written-well small early spare = record { fits = written-fits; copies = copies-well; header = header small early spare }

  -- what the old header says
  pub header-early : (region past : List ℕ) (at : ℕ) → IsHeader l.singles l.identifiers region → past ≡ slice_range region 8 72 → at ≡ region_offset region → HasNoEarly at past
  header-early region past at is past_is at_is i below =
      let inside : i < 72 - 8 = omega (arith, below) in
      ap (λ xs. get_or xs i 0) past_is ∙ (get-range region 8 72 i inside ∙ is.history i (omega (arith, below, at_is)))

  pub header-spare : (region : List ℕ) → IsHeader l.singles l.identifiers region → (k : ℕ) → IsSpareBit l k → has_bit region k ≡ false
  header-spare region is k (inl (low, high)) = is.told k low high
  header-spare region is k (inr (inl (low, high))) = is.here k low high
  header-spare region is k (inr (inr (low, high))) = is.last k low high
