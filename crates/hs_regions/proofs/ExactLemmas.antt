-- What may be run as a region of a graph is what is well formed for the plan that it runs.
use Rattle.std.proofs.Common.{◌≡◌, ◌↔◌, ℕ, suc, ◌+◌, ◌-◌, ◌<◌, ◌≤◌, Bool, true, false, List, [], length, map, take, drop, Some, slice_get, refl, sym, ap, subst, ◌∙◌, inl, inr, arith}
use Rattle.std.specs.Prelude.{slice_index, slice_range}
use Rattle.std.proofs.lemmas.List.{length-map}
use Rattle.std.proofs.lemmas.Option.{same_Some, get_or_from_slice_get}
use Rattle.std.proofs.lemmas.Bool.{cases_lt}
use Rattle.hs_base.specs.Chains.{Piece}
use Rattle.hs_base.specs.KeptPieces.{Form, nothing, positions, literal, first, last, ring, form_size, IsFieldAt}
use Rattle.hs_base.specs.Literals.{LiteralByte}
use Rattle.hs_base.specs.Regions.{Place, Plan, IsHeader, IsPlaced, IsWellFormed, fields_at, list_places, place_form, place_size, plan_starts, region_offset}
use Rattle.hs_base.proofs.BitLemmas.{bits-past}
use Rattle.hs_base.proofs.RegionLemmas.{placed-end}
use Rattle.hs_base.proofs.SumLemmas.{sums-size}
use Rattle.hs_engine.specs.Engines.{Meaning}
use Rattle.hs_layout.specs.Layouts.{Laid, field_bytes, laid_size}
use Rattle.hs_nodes.specs.Graphs.{IsCopySound, IsGraphSound, IsNodeFor, IsOwnField, KeepsFields, keeps, keeps_field}
use Rattle.hs_nodes.specs.Nodes.{IsKindSound, IsWellPart}
use Rattle.hs_nodes.specs.Walks.{node_part}
use Rattle.hs_nodes.specs.declared.graph.FieldCopy.{FieldCopy}
use Rattle.hs_nodes.specs.declared.graph.Graph.{Graph}
use Rattle.hs_nodes.specs.declared.table.Node.{Node}
use Rattle.hs_nodes.specs.declared.table.NodeKind.{NodeKind}
use Rattle.hs_nodes.specs.declared.table.NodeKind.TheVariants.{Engine, Literal, FirstLiteral, LookBack}
use Rattle.hs_nodes.specs.WellRegions.{AreCopiesWell, FitsRegion, IsWellRegion, RunsLaid}
use Rattle.hs_regions.specs.RegionLaws.{GraphRegionsAreWellFormed}
use Rattle.hs_nodes.proofs.FieldLemmas.{placed, plan_field}
use Rattle.hs_nodes.proofs.PlanLemmas.{plan-size}
use Rattle.hs_nodes.proofs.NodeLemmas.{there}

-- a form of which nothing is kept has no bytes, and no rule
pub unkept-at : (form : Form) (bytes : List ℕ) (at : ℕ) → keeps form ≡ false → IsFieldAt form bytes at
unkept-at nothing bytes at none = tt
unkept-at (positions tree) bytes at none = absurd (cc)
unkept-at (literal n) bytes at none = absurd (cc)
unkept-at (first set n) bytes at none = absurd (cc)
unkept-at (last set m) bytes at none = absurd (cc)
unkept-at (ring set m) bytes at none = absurd (cc)

pub unkept-size : (form : Form) → keeps form ≡ false → form_size form ≡ 0
unkept-size nothing none = refl
unkept-size (positions tree) none = absurd (cc)
unkept-size (literal n) none = absurd (cc)
unkept-size (first set n) none = absurd (cc)
unkept-size (last set m) none = absurd (cc)
unkept-size (ring set m) none = absurd (cc)

-- a field of no bytes has no rule that it could break
pub zero-at : (form : Form) (at : ℕ) → form_size form ≡ 0 → IsFieldAt form [] at
zero-at nothing at none = tt
zero-at (positions tree) at none = λ k above. bits-past [] k (omega arith)
zero-at (literal n) at none = absurd (omega (arith, none))
zero-at (first set n) at none = absurd (omega (arith, none))
zero-at (last set m) at none = absurd (omega (arith, none))
zero-at (ring set m) at none = record { spare = λ k late. bits-past [] k (omega arith); early = λ k late. bits-past [] k (omega arith) }

-- a range of no bytes
pub range-none : (xs : List ℕ) (low high : ℕ) → high ≤ low → slice_range xs low high ≡ []
range-none xs low high none =
    let zero_is : high - low ≡ 0 = omega (arith, none) in
    ap (λ n. take n (drop low xs)) zero_is

module _ {E : Type 0} (meaning : E → Meaning) (graph : Graph E) where
  pub unkept-part : (kind : NodeKind) (bytes : List ℕ) (at : ℕ) → keeps_field kind ≡ false → IsWellPart meaning graph.table.engines.items kind bytes at
  unkept-part (Engine number null) bytes at none = absurd (cc)
  unkept-part (Literal number len) bytes at none = absurd (cc)
  unkept-part (FirstLiteral number len) bytes at none = tt
  unkept-part (LookBack pair) bytes at none = tt

  -- what may be kept of a node of that kind is what may be a field of the form
  part-field : (kind : NodeKind) (form : Form) (piece : Piece) (literals size : ℕ) (bytes : List ℕ) (at : ℕ) → keeps form ≡ true → KeepsFields meaning graph kind form piece →
      IsKindSound meaning graph.table.engines.items literals kind size → IsWellPart meaning graph.table.engines.items kind bytes at ↔ IsFieldAt form bytes at
  part-field (Engine number null) form piece literals size bytes at some fields sound =
      let (e, is) = there graph.table.engines.items number sound.there in
      let own = fields e is in (
        λ well. (own.may bytes at).0 (well e is),
        λ field. λ q other. subst (λ x. (meaning x).well bytes at) (same_Some e q (sym is ∙ other)) ((own.may bytes at).1 field),
      )
  part-field (Literal number len) form piece literals size bytes at some fields sound = (
    λ well. subst (λ f. IsFieldAt f bytes at) (sym fields) well,
    λ field. subst (λ f. IsFieldAt f bytes at) fields field,
  )
  part-field (FirstLiteral number len) form piece literals size bytes at some fields sound = absurd (cc)
  part-field (LookBack pair) form piece literals size bytes at some fields sound = absurd (cc)

module _ {E : Type 0} (meaning : E → Meaning) (graph : Graph E) (literals : List (List LiteralByte)) (l : Laid) (plan : Plan) (sound : IsGraphSound meaning graph literals l) (laid : RunsLaid meaning graph literals l plan) (region : List ℕ) (at : ℕ) where
  -- what may be kept of the node is what may be the field of its place
  pub node-field : (bytes : List ℕ) (k : ℕ) (node : Node) (role : ℕ) (p : Place) → IsNodeFor meaning graph plan laid.runs.pieces k node role p → keeps (place_form p) ≡ true →
      IsWellPart meaning graph.table.engines.items node.kind bytes at ↔ IsFieldAt (place_form p) bytes at
  node-field bytes k node role p is some =
      part-field meaning graph node.kind (place_form p) p.piece (length literals) (node.end - node.start) bytes at some is.fields (sound.table.kinds k node is.there)

  pub own-field : (node : Node) (role : ℕ) → IsOwnField meaning graph plan node role → plan_field plan region role ≡ node_part region node
  own-field node role own =
      sym (ap (λ n. slice_range region n node.end) own.start ∙ ap (λ n. slice_range region (slice_index (plan_starts plan) role) n) own.end)

  pub field-laid : (k : ℕ) → field_bytes l region k ≡ plan_field plan region k
  field-laid k = ap (λ (m : Laid). field_bytes m region k) laid.laid

  -- the fields of the places are well, if what is kept of the nodes and the copies are
  field-well : FitsRegion meaning graph l region → at ≡ region_offset region → AreCopiesWell meaning graph l region at → (role : ℕ) (p : Place) → slice_get (list_places plan) role ≡ Some p → IsFieldAt (place_form p) (plan_field plan region role) at
  field-well fits offset copies role p place = by-form (keeps (place_form p)) refl
    where
      by-form : (s : Bool) → keeps (place_form p) ≡ s → IsFieldAt (place_form p) (plan_field plan region role) at
      by-form false none = unkept-at (place_form p) (plan_field plan region role) at none
      by-form true some =
          let has = laid.runs.roles role p place some in
          elim has.kept [
            | inl own ↦
                subst (λ bytes. IsFieldAt (place_form p) bytes at) (sym (own-field has.node role own))
                ((node-field (node_part region has.node) has.k has.node role p has.runs some).0
                (subst (λ n. IsWellPart meaning graph.table.engines.items has.node.kind (node_part region has.node) n) (sym offset) (fits.nodes has.k has.node has.runs.there)))
            | inr is ↦
                (node-field (plan_field plan region role) has.k has.node role p has.runs some).0
                (subst (λ bytes. IsWellPart meaning graph.table.engines.items has.node.kind bytes at) (ap (λ r. field_bytes l region r) is.field ∙ field-laid role)
                (copies is.number is.copy has.node is.there (subst (λ n. slice_get graph.table.nodes.items n ≡ Some has.node) (sym is.node) has.runs.there)))
          ]

  abbrev AreFieldsWell : Type 0
  AreFieldsWell = (role : ℕ) (p : Place) → slice_get (list_places plan) role ≡ Some p → IsFieldAt (place_form p) (plan_field plan region role) at

  -- a node that keeps something has a form that keeps something
  kind-keeps : (kind : NodeKind) (form : Form) (piece : Piece) (size : ℕ) → keeps_field kind ≡ true → KeepsFields meaning graph kind form piece → IsKindSound meaning graph.table.engines.items (length literals) kind size → keeps form ≡ true
  kind-keeps (Engine number null) form piece size some own sound_is = let (e, there_is) = there graph.table.engines.items number sound_is.there in (own e there_is).kept
  kind-keeps (Literal number len) form piece size some own sound_is = ap keeps own
  kind-keeps (FirstLiteral number len) form piece size some own sound_is = absurd (cc)
  kind-keeps (LookBack pair) form piece size some own sound_is = absurd (cc)

  -- what is kept of a node is well, if its field is
  pub node-by : (bytes : List ℕ) (k : ℕ) (node : Node) (is : slice_get graph.table.nodes.items k ≡ Some node) (some : keeps_field node.kind ≡ true) →
      IsFieldAt (place_form (laid.runs.fields k node is some).p) bytes at → IsWellPart meaning graph.table.engines.items node.kind bytes at
  node-by bytes k node is some field =
      let has = laid.runs.fields k node is some in
      (node-field bytes k node has.role has.p has.runs (kind-keeps node.kind (place_form has.p) has.p.piece (node.end - node.start) some has.runs.fields (sound.table.kinds k node is))).1 field

  node-well : AreFieldsWell → (k : ℕ) (node : Node) → slice_get graph.table.nodes.items k ≡ Some node → IsWellPart meaning graph.table.engines.items node.kind (node_part region node) at
  node-well fields k node is = by-kind (keeps_field node.kind) refl
    where
      by-kind : (b : Bool) → keeps_field node.kind ≡ b → IsWellPart meaning graph.table.engines.items node.kind (node_part region node) at
      by-kind false none = unkept-part meaning graph node.kind (node_part region node) at none
      by-kind true some =
          let has = laid.runs.fields k node is some in
          node-by (node_part region node) k node is some
          (subst (λ bytes. IsFieldAt (place_form has.p) bytes at) (own-field node has.role has.own) (fields has.role has.p has.runs.place))

  -- of no bytes it is well
  node-none : (k : ℕ) (node : Node) → slice_get graph.table.nodes.items k ≡ Some node → node.end - node.start ≡ 0 → IsWellPart meaning graph.table.engines.items node.kind [] at
  node-none k node is none = by-kind (keeps_field node.kind) refl
    where
      by-kind : (b : Bool) → keeps_field node.kind ≡ b → IsWellPart meaning graph.table.engines.items node.kind [] at
      by-kind false unkept = unkept-part meaning graph node.kind [] at unkept
      by-kind true some =
          let has = laid.runs.fields k node is some in
          let wide = placed-end plan has.role (slice_index (plan_starts plan) has.role) (slice_index (plan_starts plan) (has.role + 1)) has.p (placed plan has.role has.p has.runs.place) in
          node-by [] k node is some (zero-at (place_form has.p) at (omega (arith, none, has.own.start, has.own.end, wide)))

  module _ (i : ℕ) (copy : FieldCopy) (node : Node) (is : slice_get graph.copies.items i ≡ Some copy) (of : slice_get graph.table.nodes.items copy.node ≡ Some node) where
    abbrev low : ℕ
    low = slice_index l.starts copy.field

    abbrev high : ℕ
    high = slice_index l.starts (copy.field + 1)

    -- the field of the plan that the copy is may stand there
    abbrev pub IsCopiedWell : Type 0
    IsCopiedWell = (p : Place) → slice_get (list_places plan) copy.field ≡ Some p → IsFieldAt (place_form p) (plan_field plan region copy.field) at

    sound_is : IsCopySound graph l copy
    sound_is = sound.fits.copies i copy is

    same-size : node.end - node.start ≡ high - low
    same-size = subst (λ (n : Node). n.end - n.start ≡ high - low) (same_Some sound_is.node node (sym sound_is.there ∙ of)) sound_is.same

    -- there is one
    pub copy-place : (p : Place) × (slice_get (list_places plan) copy.field ≡ Some p)
    copy-place =
        let count : length (plan_starts plan) ≡ suc (length (list_places plan)) =
        sums-size (fields_at (length plan.singles) (length plan.identifiers)) (map place_size (list_places plan)) ∙ ap suc (length-map (list_places plan) place_size) in
        there (list_places plan) copy.field (omega (arith, sound_is.within, ap (λ (m : Laid). length m.starts) laid.laid, count))

    pub low-is : low ≡ slice_index (plan_starts plan) copy.field
    low-is = ap (λ (m : Laid). slice_index m.starts copy.field) laid.laid

    pub high-is : high ≡ slice_index (plan_starts plan) (copy.field + 1)
    high-is = ap (λ (m : Laid). slice_index m.starts (copy.field + 1)) laid.laid

    -- of no bytes
    copy-none : high ≤ low → IsWellPart meaning graph.table.engines.items node.kind (field_bytes l region copy.field) at
    copy-none none =
        subst (λ bytes. IsWellPart meaning graph.table.engines.items node.kind bytes at) (sym (range-none region low high none))
        (node-none copy.node node of (omega (arith, same-size, none)))

    -- two copies of one field are one
    same-copy : (j : ℕ) (other : FieldCopy) → slice_get graph.copies.items j ≡ Some other → other.field ≡ copy.field → other ≡ copy
    same-copy j other there_is same = elim (cases_lt i j) [
      | inl below ↦ absurd (omega (arith, sound.fits.rising i j copy other below is there_is, same))
      | inr above ↦ elim (cases_lt j i) [
        | inl below ↦ absurd (omega (arith, sound.fits.rising j i other copy below there_is is, same))
        | inr above' ↦
            let e : j ≡ i = omega (arith, above, above') in
            same_Some other copy (sym there_is ∙ (ap (slice_get graph.copies.items) e ∙ is))
      ]
    ]

    -- of some bytes
    copy-some : IsCopiedWell → low < high → IsWellPart meaning graph.table.engines.items node.kind (field_bytes l region copy.field) at
    copy-some fields wide =
        let (p, place) = copy-place in
        by-form p place (keeps (place_form p)) refl
      where
        by-form : (p : Place) → slice_get (list_places plan) copy.field ≡ Some p → (s : Bool) → keeps (place_form p) ≡ s → IsWellPart meaning graph.table.engines.items node.kind (field_bytes l region copy.field) at
        by-form p place false none =
            absurd (omega (arith, wide, low-is, high-is, unkept-size (place_form p) none, placed-end plan copy.field (slice_index (plan_starts plan) copy.field) (slice_index (plan_starts plan) (copy.field + 1)) p (placed plan copy.field p place)))
        by-form p place true some =
            let has = laid.runs.roles copy.field p place some in
            elim has.kept [
              | inl own ↦ elim (sound_is.apart has.k has.node has.runs.there) [
                | inl before ↦ absurd (omega (arith, wide, before, own.end, low-is, high-is))
                | inr behind ↦ absurd (omega (arith, wide, behind, own.start, low-is, high-is))
              ]
              | inr other ↦
                  let same = same-copy other.number other.copy other.there other.field in
                  let same_node : has.node ≡ node = same_Some has.node node (sym (subst (λ n. slice_get graph.table.nodes.items n ≡ Some has.node) (sym other.node) has.runs.there) ∙ (ap (λ (c : FieldCopy). slice_get graph.table.nodes.items c.node) same ∙ of)) in
                  subst (λ (n : Node). IsWellPart meaning graph.table.engines.items n.kind (field_bytes l region copy.field) at) same_node
                  ((node-field (field_bytes l region copy.field) has.k has.node copy.field p has.runs some).1
                  (subst (λ bytes. IsFieldAt (place_form p) bytes at) (sym (field-laid copy.field)) (fields p place)))
            ]

    pub copy-well : IsCopiedWell → IsWellPart meaning graph.table.engines.items node.kind (field_bytes l region copy.field) at
    copy-well fields = elim (cases_lt low high) [
      | inl wide ↦ copy-some fields wide
      | inr none ↦ copy-none none
    ]

-- a field by where it begins is that of its number
pub field-is : (plan : Plan) (region : List ℕ) (k low high : ℕ) (p : Place) → IsPlaced plan k p low high → slice_range region low high ≡ plan_field plan region k
field-is plan region k low high p is =
    let e : suc k ≡ k + 1 = omega arith in
    let a : slice_index (plan_starts plan) k ≡ low = get_or_from_slice_get (plan_starts plan) k low 0 is.begin in
    let b : slice_index (plan_starts plan) (k + 1) ≡ high = sym (ap (slice_index (plan_starts plan)) e) ∙ get_or_from_slice_get (plan_starts plan) (suc k) high 0 is.end in
    ap (λ n. slice_range region n high) (sym a) ∙ ap (λ n. slice_range region (slice_index (plan_starts plan) k) n) (sym b)

module _ {E : Type 0} (meaning : E → Meaning) where
  pub regions-exact : GraphRegionsAreWellFormed meaning
  regions-exact graph literals l plan region sound laid each = (
    λ well. record {
      len = well.fits.sized ∙ (ap laid_size laid.laid ∙ plan-size plan);
      bytes = each;
      header = subst (λ (m : Laid). IsHeader m.singles m.identifiers region) laid.laid well.header;
      fields = λ k low high p is.
          subst (λ bytes. IsFieldAt (place_form p) bytes (region_offset region)) (sym (field-is plan region k low high p is))
          (field-well meaning graph literals l plan sound laid region (region_offset region) well.fits refl well.copies k p is.piece);
    },
    λ form. by-fields form (λ role p place. form.fields role (slice_index (plan_starts plan) role) (slice_index (plan_starts plan) (role + 1)) p (placed plan role p place)),
  )
    where
      by-fields : IsWellFormed plan region → AreFieldsWell meaning graph literals l plan sound laid region (region_offset region) → IsWellRegion meaning graph l region
      by-fields form fields = record {
        fits = record {
          sized = form.len ∙ sym (ap laid_size laid.laid ∙ plan-size plan);
          nodes = λ k node is. node-well meaning graph literals l plan sound laid region (region_offset region) fields k node is;
        };
        copies = λ i copy node is of. copy-well meaning graph literals l plan sound laid region (region_offset region) i copy node is of (fields copy.field);
        header = subst (λ (m : Laid). IsHeader m.singles m.identifiers region) (sym laid.laid) form.header;
      }
