-- The first field of a region that breaks its rule is that of the first such piece of the plan that the graph runs.
use Rattle.std.proofs.Common.{◌≡◌, ℕ, ◌+◌, ◌<◌, ◌≤◌, Bool, true, false, List, length, map, Some, slice_get, refl, sym, ap, subst, ◌∙◌, inl, inr, arith}
use Rattle.std.specs.Prelude.{slice_index, slice_range}
use Rattle.std.proofs.lemmas.Bool.{cases_lt}
use Rattle.std.proofs.lemmas.List.{length-map}
use Rattle.std.proofs.lemmas.Option.{same_Some}
use Rattle.hs_base.specs.KeptPieces.{IsFieldAt}
use Rattle.hs_base.specs.Literals.{LiteralByte}
use Rattle.hs_base.specs.Regions.{Place, Plan, fields_at, list_places, place_form, place_size, plan_starts}
use Rattle.hs_base.proofs.RegionLemmas.{placed-end}
use Rattle.hs_base.proofs.SumLemmas.{sums-rise, sums-size}
use Rattle.hs_engine.specs.Engines.{Meaning}
use Rattle.hs_layout.specs.Layouts.{Laid}
use Rattle.hs_nodes.specs.Graphs.{IsGraphSound, keeps, keeps_field}
use Rattle.hs_nodes.specs.Nodes.{IsWellPart}
use Rattle.hs_nodes.specs.Walks.{node_part}
use Rattle.hs_nodes.specs.declared.graph.FieldCopy.{FieldCopy}
use Rattle.hs_nodes.specs.declared.graph.Graph.{Graph}
use Rattle.hs_nodes.specs.declared.table.Node.{Node}
use Rattle.hs_nodes.specs.declared.table.NodeKind.{NodeKind}
use Rattle.hs_regions.specs.Faults as faults
use Rattle.hs_regions.specs.Faults.{AreFieldsWellBefore, IsFieldFault, IsKeptIn}
use Rattle.hs_nodes.specs.WellRegions.{RunsLaid}
use Rattle.hs_regions.proofs.ExactLemmas.{copy-place, copy-well, high-is, low-is, node-by, node-field, own-field, range-none, unkept-at, unkept-part, zero-at}
use Rattle.hs_nodes.proofs.FieldLemmas.{placed, plan_field}

module _ {E : Type 0} (meaning : E → Meaning) (graph : Graph E) (literals : List (List LiteralByte)) (l : Laid) (plan : Plan) (sound : IsGraphSound meaning graph literals l) (laid : RunsLaid meaning graph literals l plan) (region : List ℕ) (at : ℕ) where
  -- what is kept of a node of that kind may stand from the first to before the second byte
  abbrev IsWellIn : NodeKind → (low high : ℕ) → Type 0
  IsWellIn kind low high = IsWellPart meaning graph.table.engines.items kind (slice_range region low high) at

  abbrev start : ℕ → ℕ
  start role = slice_index (plan_starts plan) role

  well-as : (kind kind' : NodeKind) (low low' high high' : ℕ) → kind ≡ kind' → low ≡ low' → high ≡ high' → IsWellIn kind' low' high' → IsWellIn kind low high
  well-as kind kind' low low' high high' e f h well = subst (λ k. IsWellIn k low high) (sym e) (subst (λ n. IsWellIn kind' n high) (sym f) (subst (λ n. IsWellIn kind' low' n) (sym h) well))

  -- the field of a place may stand there, if whatever is kept there may
  field-here : (role : ℕ) (p : Place) → slice_get (list_places plan) role ≡ Some p → ((kind : NodeKind) → IsKeptIn graph l kind (start role) (start (role + 1)) → IsWellIn kind (start role) (start (role + 1))) → IsFieldAt (place_form p) (plan_field plan region role) at
  field-here role p place wells = by-form (keeps (place_form p)) refl
    where
      by-form : (s : Bool) → keeps (place_form p) ≡ s → IsFieldAt (place_form p) (plan_field plan region role) at
      by-form false none = unkept-at (place_form p) (plan_field plan region role) at none
      by-form true some =
          let has = laid.runs.roles role p place some in
          (node-field meaning graph literals l plan sound laid region at (plan_field plan region role) has.k has.node role p has.runs some).0
          (wells has.node.kind
          (elim has.kept [
            | inl own ↦ faults.own has.k has.node has.runs.there refl (sym own.start) (sym own.end)
            | inr is ↦
                let low : start role ≡ slice_index l.starts is.copy.field = sym (ap (λ (m : Laid). slice_index m.starts is.copy.field) laid.laid ∙ ap start is.field) in
                let high : start (role + 1) ≡ slice_index l.starts (is.copy.field + 1) = sym (ap (λ (m : Laid). slice_index m.starts (is.copy.field + 1)) laid.laid ∙ ap (λ n. start (n + 1)) is.field) in
                faults.copied is.number is.copy has.node is.there (subst (λ n. slice_get graph.table.nodes.items n ≡ Some has.node) (sym is.node) has.runs.there) refl low high
          ]))

  -- What is kept there has a place, and breaks the rule of its form.
  pub record IsBroken (low high : ℕ) : Type 0 where
    pub role : ℕ
    pub p : Place
    pub place : slice_get (list_places plan) role ≡ Some p
    pub begin : low ≡ start role
    pub end : high ≡ start (role + 1)
    pub breaks : IsFieldAt (place_form p) (plan_field plan region role) at → ⊥

  broken-own : (k : ℕ) (node : Node) → slice_get graph.table.nodes.items k ≡ Some node → (IsWellIn node.kind node.start node.end → ⊥) → IsBroken node.start node.end
  broken-own k node is breaks = by-kind (keeps_field node.kind) refl
    where
      by-kind : (b : Bool) → keeps_field node.kind ≡ b → IsBroken node.start node.end
      by-kind false none = absurd (breaks (unkept-part meaning graph node.kind (node_part region node) at none))
      by-kind true some =
          let has = laid.runs.fields k node is some in
          record {
            role = has.role;
            p = has.p;
            place = has.runs.place;
            begin = has.own.start;
            end = has.own.end;
            breaks = λ field.
                breaks (node-by meaning graph literals l plan sound laid region at (node_part region node) k node is some
                (subst (λ bytes. IsFieldAt (place_form has.p) bytes at) (own-field meaning graph literals l plan sound laid region at node has.role has.own) field));
          }

  broken-copy : (i : ℕ) (copy : FieldCopy) (node : Node) → slice_get graph.copies.items i ≡ Some copy → slice_get graph.table.nodes.items copy.node ≡ Some node →
      (IsWellIn node.kind (slice_index l.starts copy.field) (slice_index l.starts (copy.field + 1)) → ⊥) → IsBroken (slice_index l.starts copy.field) (slice_index l.starts (copy.field + 1))
  broken-copy i copy node is of breaks =
      let (p, place) = copy-place meaning graph literals l plan sound laid region at i copy node is of in
      record {
        role = copy.field;
        p = p;
        place = place;
        begin = low-is meaning graph literals l plan sound laid region at i copy node is of;
        end = high-is meaning graph literals l plan sound laid region at i copy node is of;
        breaks = λ field.
            breaks (copy-well meaning graph literals l plan sound laid region at i copy node is of
            (λ q there_q. subst (λ (x : Place). IsFieldAt (place_form x) (plan_field plan region copy.field) at) (same_Some p q (sym place ∙ there_q)) field));
      }

  broken : (kind : NodeKind) (low high : ℕ) → IsKeptIn graph l kind low high → (IsWellIn kind low high → ⊥) → IsBroken low high
  broken kind low high (faults.own k node is same begin end) breaks =
      let own = broken-own k node is (λ well. breaks (well-as kind node.kind low node.start high node.end same begin end well)) in
      record { role = own.role; p = own.p; place = own.place; begin = begin ∙ own.begin; end = end ∙ own.end; breaks = own.breaks }
  broken kind low high (faults.copied i copy node is of same begin end) breaks =
      let own = broken-copy i copy node is of (λ well. breaks (well-as kind node.kind low (slice_index l.starts copy.field) high (slice_index l.starts (copy.field + 1)) same begin end well)) in
      record { role = own.role; p = own.p; place = own.place; begin = begin ∙ own.begin; end = end ∙ own.end; breaks = own.breaks }

  -- a field that begins before that byte may stand there
  pub field-before : (bound : ℕ) → AreFieldsWellBefore meaning graph region at l bound → (role : ℕ) (p : Place) → start role < bound → slice_get (list_places plan) role ≡ Some p → IsFieldAt (place_form p) (plan_field plan region role) at
  field-before bound wells role p low there_is = field-here role p there_is (λ kind kept. wells kind (start role) (start (role + 1)) kept low)

  -- the fields of the pieces rise
  pub starts-rise : (j k : ℕ) → j ≤ k → k < length (list_places plan) → start j ≤ start k
  starts-rise j k order within =
      let first = fields_at (length plan.singles) (length plan.identifiers) in
      let sizes = map place_size (list_places plan) in
      sums-rise first sizes j k order (omega (arith, within, sums-size first sizes, length-map (list_places plan) place_size))

  pub start-next : (k : ℕ) (p : Place) → slice_get (list_places plan) k ≡ Some p → start (k + 1) ≡ start k + place_size p
  start-next k p is = placed-end plan k (start k) (start (k + 1)) p (placed plan k p is)

  -- a piece before one that begins later
  pub before-well : (bound : ℕ) → AreFieldsWellBefore meaning graph region at l bound → (role number : ℕ) (p : Place) → role < number → start number ≤ bound → number < length (list_places plan) → slice_get (list_places plan) role ≡ Some p →
      IsFieldAt (place_form p) (plan_field plan region role) at
  before-well bound wells role number p early low within there_is = elim (cases_lt (start role) bound) [
    | inl before ↦ field-before bound wells role p before there_is
    | inr late ↦
        let rise = starts-rise (role + 1) number (omega (arith, early)) within in
        let wide = start-next role p there_is in
        subst (λ bytes. IsFieldAt (place_form p) bytes at) (sym (range-none region (start role) (start (role + 1)) (omega (arith, rise, low, late))))
        (zero-at (place_form p) at (omega (arith, wide, rise, low, late)))
  ]

  -- the field that breaks its rule is that of a piece
  pub fault-broken : (place : ℕ) (fault : IsFieldFault meaning graph region at l place) → IsBroken place fault.end
  fault-broken place fault = broken fault.kind place fault.end fault.there fault.breaks
