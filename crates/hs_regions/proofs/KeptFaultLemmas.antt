-- The first part of what is kept that breaks its rule, by the plan: from the first field of the region that does, or the
-- first number of no state.
use Rattle.std.proofs.Common.{◌≡◌, ℕ, suc, ◌+◌, ◌-◌, ◌<◌, ◌≤◌, List, [], ◌∷◌, length, Some, slice_get, slice_range, sym, ap, subst, ◌∙◌, inl, inr, arith}
use Rattle.std.specs.Prelude.{slice_index}
use Rattle.std.proofs.lemmas.Bool.{cases_lt}
use Rattle.std.proofs.lemmas.Option.{get_or_from_slice_get, same_Some, slice_get_within}
use Rattle.hs_base.specs.KeptPieces.{Form, form_size, IsFieldAt, positions}
use Rattle.hs_base.specs.Literals.{LiteralByte}
use Rattle.hs_base.specs.Regions.{Place, Plan, fields_at, list_places, place_form, place_size, plan_size, plan_starts, region_offset}
use Rattle.hs_base.specs.Trees.{Tree}
use Rattle.hs_base.proofs.ListLemmas.{each-member, place-member}
use Rattle.hs_base.proofs.RegionLemmas.{placed-end, size-above}
use Rattle.hs_engine.specs.Engines.{Meaning}
use Rattle.hs_layout.specs.Layouts.{Laid}
use Rattle.hs_nodes.specs.declared.graph.Graph.{Graph}
use Rattle.hs_nodes.proofs.FieldLemmas.{placed, plan_field}
use Rattle.hs_states.specs.StateSets.{set_bytes, state_count}
use Rattle.hs_kept.specs.KeptRegions.{IsKeptByState, IsKeptPartAt, IsKeptPlaced, IsSomeStateByte, KeptForm, field, kept_size, state}
use Rattle.hs_kept.specs.Packing.{IsPackingFor, end_of, packed_size, unpacked, unpacked_size}
use Rattle.hs_kept.specs.Parts.{AreNumbersBefore, IsNumberFault, IsPartIn, between, own, place_of}
use Rattle.hs_kept.specs.declared.packing.Packing.{Packing}
use Rattle.hs_kept.specs.declared.packing.StateField.{StateField}
use Rattle.hs_kept.proofs.PartLemmas.{IsPart, form-of_state, kept-field, kept-state, one-range, range-none}
use Rattle.hs_kept.proofs.PartOfLemmas.{part-between, part-own}
use Rattle.hs_kept.proofs.PlacedLemmas.{kept-form, kept-high, kept-placed, kept-within}
use Rattle.hs_kept.proofs.StatePartLemmas.{set-fits, state-byte}
use Rattle.hs_regions.specs.Faults.{AreFieldsWellBefore, IsFieldFault}
use Rattle.hs_regions.specs.KeptFaults.{IsPartFault}
use Rattle.hs_regions.specs.Packed.{RunsPacked}
use Rattle.hs_regions.proofs.ExactLemmas.{zero-at}
use Rattle.hs_regions.proofs.PieceLemmas.{IsAt, IsBetween, IsOwn, each-map, field-piece, numbers-up, piece-at, place-shift}
use Rattle.hs_regions.proofs.PlanFaultLemmas.{fault-broken, field-before, start-next, starts-rise}

module _ (packing : Packing) (plan : Plan) (is : IsPackingFor packing plan) where
  abbrev first : ℕ
  first = fields_at (length plan.singles) (length plan.identifiers)

  abbrev start : ℕ → ℕ
  start k = slice_index (plan_starts plan) k

  -- the piece of that number is kept so from that byte on, and its field begins there
  abbrev IsPieceOf : (k : ℕ) (p : Place) (form : KeptForm) (low begin : ℕ) → Type 0
  IsPieceOf k p form low begin = IsPart (list_places plan) is.forms first first k p form low begin

  pub at-first : (k : ℕ) (p : Place) (form : KeptForm) (low begin : ℕ) → IsPieceOf k p form low begin → IsAt packing.fields.items first first p form low begin
  at-first k p form low begin part = piece-at is.fields is.are k p form low begin part

  -- where it is kept
  place-is : (p : Place) (form : Form) (low begin : ℕ) → IsBetween packing.fields.items first first p form low begin → place_of packing low ≡ begin
  place-is p form low begin lies = sym (place-shift packing.fields.items 0 0 first first first low (omega arith) (omega arith) lies.above) ∙ lies.from

  size-is : plan_size plan ≡ unpacked_size packing
  size-is = sym is.region_size

  -- the packing knows its part
  pub part-in : (k : ℕ) (p : Place) (form : KeptForm) (low begin : ℕ) → IsPieceOf k p form low begin → low + place_size p ≤ unpacked_size packing → IsPartIn packing low (low + place_size p)
  part-in k p (field form) low begin part within = between (omega arith) within (at-first k p (field form) low begin part).apart
  part-in k p (state tree) low begin part within =
      let o : IsOwn packing.fields.items p tree low begin = at-first k p (state tree) low begin part in
      own o.number o.f o.there (sym o.at_is) (omega (arith, o.at_is, o.wide))

  pub piece-of : (k low high : ℕ) (p : Place) (form : KeptForm) → IsKeptPlaced plan is.forms k p form low high → IsPieceOf k p form (start k) low
  piece-of k low high p form kept =
      record { piece = kept.piece; form_is = kept.kept; low_is = (placed plan k p kept.piece).begin; begin_is = kept.begin }

  module _ (kept : List ℕ) (sized : length kept ≡ packed_size packing) where
    abbrev region : List ℕ
    region = unpacked packing kept

    abbrev next-is : (k : ℕ) (p : Place) → slice_get (list_places plan) k ≡ Some p → start (k + 1) ≡ start k + place_size p
    next-is k p there = placed-end plan k (start k) (start (k + 1)) p (placed plan k p there)

    inside : (k : ℕ) (p : Place) → slice_get (list_places plan) k ≡ Some p → start k + place_size p ≤ unpacked_size packing
    inside k p there =
        let above : start (k + 1) ≤ plan_size plan = size-above plan (suc k) (start (k + 1)) (placed plan k p there).end in
        omega (arith, above, next-is k p there, size-is)

    number-at : (bound : ℕ) → AreNumbersBefore packing kept bound → (number : ℕ) (f : StateField) → slice_get packing.fields.items number ≡ Some f → f.at < bound → slice_index kept f.place < state_count f.sets
    number-at bound numbers number f there early =
        each-member (λ (g : StateField). g.at < bound → slice_index kept g.place < state_count g.sets) packing.fields.items f numbers (place-member packing.fields.items f number there) early

    -- the field of a piece that is kept as it is
    same-bytes : (bound : ℕ) → AreNumbersBefore packing kept bound → (k low high : ℕ) (p : Place) (form : Form) → IsKeptPlaced plan is.forms k p (field form) low high → start k < bound →
        plan_field plan region k ≡ slice_range kept low high
    same-bytes bound numbers k low high p form at early =
        let o : IsBetween packing.fields.items first first p form (start k) low = at-first k p (field form) (start k) low (piece-of k low high p (field form) at) in
        let place : place_of packing (start k) ≡ low = place-is p form (start k) low o in
        let wide : high ≡ low + form_size form = kept-high plan is.forms is.are k low high p (field form) at in
        let e : place_of packing (start k) + ((start k + place_size p) - start k) ≡ high = omega (arith, place, wide, o.size) in
        ap (λ n. slice_range region (start k) n) (next-is k p at.piece)
        ∙ (part-between packing kept (start k) (start k + place_size p) (omega arith) (inside k p at.piece) o.apart (numbers-up packing kept bound numbers (start k) early) sized
        ∙ (ap (λ n. slice_range kept (place_of packing (start k)) n) e ∙ ap (λ n. slice_range kept n high) place))

    -- the byte of a piece that is kept by the number of a state
    one-byte : (k low high : ℕ) (p : Place) (tree : Tree) → IsKeptPlaced plan is.forms k p (state tree) low high → slice_range kept low high ≡ slice_index kept low ∷ []
    one-byte k low high p tree at =
        let wide : high ≡ low + 1 = kept-high plan is.forms is.are k low high p (state tree) at in
        let below : high ≤ kept_size plan is.forms = kept-within plan is.forms is.are k low high p (state tree) at in
        one-range kept low high wide (omega (arith, wide, below, sized, is.size))

    by-state : (k low high : ℕ) (p : Place) (tree : Tree) → IsKeptPlaced plan is.forms k p (state tree) low high → IsKeptByState p tree
    by-state k low high p tree at = kept-state p tree (kept-form plan is.forms is.are k low high p (state tree) at)

    module _ (at : ℕ) where
      -- a part may be kept there, if its field may stand there, before the first number of no state
      part-well : (bound : ℕ) → AreNumbersBefore packing kept bound → (k low high : ℕ) (p : Place) (form : KeptForm) → IsKeptPlaced plan is.forms k p form low high → start k < bound →
          IsFieldAt (place_form p) (plan_field plan region k) at → IsKeptPartAt form (slice_range kept low high) at
      part-well bound numbers k low high p (field form) is_at early fine =
          subst (λ bytes. IsFieldAt form bytes at) (same-bytes bound numbers k low high p form is_at early)
          (subst (λ f. IsFieldAt f (plan_field plan region k) at) (sym (kept-field p form (kept-form plan is.forms is.are k low high p (field form) is_at))) fine)
      part-well bound numbers k low high p (state tree) is_at early fine =
          let o : IsOwn packing.fields.items p tree (start k) low = at-first k p (state tree) (start k) low (piece-of k low high p (state tree) is_at) in
          let number : slice_index kept o.f.place < state_count o.f.sets = number-at bound numbers o.number o.f o.there (omega (arith, o.at_is, early)) in
          subst (λ bytes. IsSomeStateByte tree bytes) (sym (one-byte k low high p tree is_at))
          ((state-byte p tree o.f.sets (by-state k low high p tree is_at) o.sets (slice_index kept low)).1 (subst (λ n. slice_index kept n < state_count o.f.sets) o.place_is number))

      -- a part of no bytes may be kept there
      part-none : (k low high : ℕ) (p : Place) (form : KeptForm) → IsKeptPlaced plan is.forms k p form low high → place_size p ≡ 0 → IsKeptPartAt form (slice_range kept low high) at
      part-none k low high p (field form) is_at none =
          let o : IsBetween packing.fields.items first first p form (start k) low = at-first k p (field form) (start k) low (piece-of k low high p (field form) is_at) in
          let wide : high ≡ low + form_size form = kept-high plan is.forms is.are k low high p (field form) is_at in
          subst (λ bytes. IsFieldAt form bytes at) (sym (range-none kept low high (omega (arith, wide, o.size, none)))) (zero-at form at (omega (arith, o.size, none)))
      part-none k low high p (state tree) is_at none =
          let o : IsOwn packing.fields.items p tree (start k) low = at-first k p (state tree) (start k) low (piece-of k low high p (state tree) is_at) in
          absurd (omega (arith, o.wide, o.some, none))

      -- the number of a state has a set that may stand anywhere
      state-never : (bound : ℕ) → AreNumbersBefore packing kept bound → (k low high : ℕ) (p : Place) (tree : Tree) → IsKeptPlaced plan is.forms k p (state tree) low high → start k < bound →
          IsFieldAt (place_form p) (plan_field plan region k) at
      state-never bound numbers k low high p tree is_at early =
          let o : IsOwn packing.fields.items p tree (start k) low = at-first k p (state tree) (start k) low (piece-of k low high p (state tree) is_at) in
          let begin : o.f.at < bound = omega (arith, o.at_is, early) in
          let number : slice_index kept o.f.place < state_count o.f.sets = number-at bound numbers o.number o.f o.there begin in
          let end : end_of o.f ≡ start (k + 1) = omega (arith, o.at_is, o.wide, next-is k p is_at.piece) in
          let set : plan_field plan region k ≡ set_bytes o.f.sets (slice_index kept o.f.place) =
          ap (λ n. slice_range region n (start (k + 1))) (sym o.at_is)
          ∙ (ap (λ n. slice_range region o.f.at n) (sym end) ∙ part-own packing kept o.number o.f o.there (numbers-up packing kept bound numbers o.f.at begin) sized) in
          subst (λ f. IsFieldAt f (plan_field plan region k) at) (sym (form-of_state p tree (by-state k low high p tree is_at)))
          (subst (λ bytes. IsFieldAt (positions tree) bytes at) (sym set) (set-fits tree o.f.sets o.sets (slice_index kept o.f.place) at number))

      -- a part that breaks its rule has a field that does
      part-breaks : (bound : ℕ) → AreNumbersBefore packing kept bound → (k low high : ℕ) (p : Place) (form : KeptForm) → IsKeptPlaced plan is.forms k p form low high → start k < bound →
          (IsFieldAt (place_form p) (plan_field plan region k) at → ⊥) → IsKeptPartAt form (slice_range kept low high) at → ⊥
      part-breaks bound numbers k low high p (field form) is_at early breaks fine =
          breaks (subst (λ f. IsFieldAt f (plan_field plan region k) at) (kept-field p form (kept-form plan is.forms is.are k low high p (field form) is_at))
          (subst (λ bytes. IsFieldAt form bytes at) (sym (same-bytes bound numbers k low high p form is_at early)) fine))
      part-breaks bound numbers k low high p (state tree) is_at early breaks fine = breaks (state-never bound numbers k low high p tree is_at early)

      -- it begins where its field is kept
      low-is : (bound : ℕ) → AreNumbersBefore packing kept bound → (k low high : ℕ) (p : Place) (form : KeptForm) → IsKeptPlaced plan is.forms k p form low high → start k < bound →
          (IsFieldAt (place_form p) (plan_field plan region k) at → ⊥) → place_of packing (start k) ≡ low
      low-is bound numbers k low high p (field form) is_at early breaks = place-is p form (start k) low (at-first k p (field form) (start k) low (piece-of k low high p (field form) is_at))
      low-is bound numbers k low high p (state tree) is_at early breaks = absurd (breaks (state-never bound numbers k low high p tree is_at early))

module _ {E : Type 0} (meaning : E → Meaning) (graph : Graph E) (l : Laid) (packing : Packing) (literals : List (List LiteralByte)) (plan : Plan) (runs : RunsPacked meaning graph l packing literals plan) (kept : List ℕ) (sized : length kept ≡ packed_size packing) (at : ℕ)
    (offset : at ≡ region_offset kept) where
  abbrev wide : List ℕ
  wide = unpacked packing kept

  abbrev begins : ℕ → ℕ
  begins k = slice_index (plan_starts plan) k

  as-offset : (form : KeptForm) (bytes : List ℕ) → IsKeptPartAt form bytes at → IsKeptPartAt form bytes (region_offset kept)
  as-offset form bytes fine = subst (IsKeptPartAt form bytes) offset fine

  -- The parts before that of a piece may be kept.
  parts-before : (bound : ℕ) → AreNumbersBefore packing kept bound → AreFieldsWellBefore meaning graph wide at l bound → (number : ℕ) → begins number ≤ bound → number < length (list_places plan) →
      (k low high : ℕ) (p : Place) (form : KeptForm) → k < number → IsKeptPlaced plan runs.packing_for.forms k p form low high → IsKeptPartAt form (slice_range kept low high) (region_offset kept)
  parts-before bound numbers wells number below within k low high p form early placed_at = as-offset form (slice_range kept low high) (elim (cases_lt (begins k) bound) [
    | inl before ↦
        part-well packing plan runs.packing_for kept sized at bound numbers k low high p form placed_at before
        (field-before meaning graph literals l plan runs.sound runs.runs wide at bound wells k p before placed_at.piece)
    | inr late ↦
        let rise = starts-rise meaning graph literals l plan runs.sound runs.runs wide at (k + 1) number (omega (arith, early)) within in
        let next = start-next meaning graph literals l plan runs.sound runs.runs wide at k p placed_at.piece in
        part-none packing plan runs.packing_for kept sized at k low high p form placed_at (omega (arith, rise, next, below, late))
  ])

  -- the first field that breaks its rule, before the first number of no state
  pub field-fault : (bound place : ℕ) → AreNumbersBefore packing kept bound → place < bound → IsFieldFault meaning graph wide at l place → IsPartFault plan kept (place_of packing place)
  field-fault bound place numbers early fault =
      let b = fault-broken meaning graph literals l plan runs.sound runs.runs wide at place fault in
      let (form, low, high, placed_at) = kept-placed plan runs.packing_for.forms runs.packing_for.are b.role b.p b.place in
      let before : begins b.role < bound = omega (arith, b.begin, early) in
      let is_low : place_of packing place ≡ low = ap (place_of packing) b.begin ∙ low-is packing plan runs.packing_for kept sized at bound numbers b.role low high b.p form placed_at before b.breaks in
      subst (IsPartFault plan kept) (sym is_low)
      (record {
        forms = runs.packing_for.forms;
        are = runs.packing_for.are;
        number = b.role;
        high = high;
        place = b.p;
        form = form;
        placed = placed_at;
        before =
            parts-before place (numbers-below place bound early numbers) fault.before b.role (omega (arith, b.begin)) (slice_get_within (list_places plan) b.role b.p b.place);
        breaks = λ fine.
            part-breaks packing plan runs.packing_for kept sized at bound numbers b.role low high b.p form placed_at before b.breaks (subst (IsKeptPartAt form (slice_range kept low high)) (sym offset) fine);
      })
    where
      numbers-below : (place bound : ℕ) → place < bound → AreNumbersBefore packing kept bound → AreNumbersBefore packing kept place
      numbers-below place bound less all = each-map packing.fields.items (λ f number low. number (omega (arith, less, low))) all

  -- the first number of no state
  pub number-fault : (low place : ℕ) → IsNumberFault packing kept low place → AreFieldsWellBefore meaning graph wide at l low → IsPartFault plan kept place
  number-fault low place fault wells =
      let has = field-piece runs.packing_for.fields fault.number fault.f fault.there in
      let begin : begins has.k ≡ low = get_or_from_slice_get (plan_starts plan) has.k fault.f.at 0 has.part.low_is ∙ fault.begin in
      let (form, begin_kept, high, placed_at) = kept-placed plan runs.packing_for.forms runs.packing_for.are has.k has.p has.part.piece in
      let form_is : form ≡ state has.tree = same_Some form (state has.tree) (sym placed_at.kept ∙ has.part.form_is) in
      let place_is : begin_kept ≡ place = same_Some begin_kept fault.f.place (sym placed_at.begin ∙ has.part.begin_is) ∙ fault.begin_kept in
      let placed_by : IsKeptPlaced plan runs.packing_for.forms has.k has.p (state has.tree) place high =
      subst (λ n. IsKeptPlaced plan runs.packing_for.forms has.k has.p (state has.tree) n high) place_is
      (subst (λ f. IsKeptPlaced plan runs.packing_for.forms has.k has.p f begin_kept high) form_is placed_at) in
      let one : slice_range kept place high ≡ slice_index kept place ∷ [] = one-byte packing plan runs.packing_for kept sized has.k place high has.p has.tree placed_by in
      record {
        forms = runs.packing_for.forms;
        are = runs.packing_for.are;
        number = has.k;
        high = high;
        place = has.p;
        form = state has.tree;
        placed = placed_by;
        before = parts-before low fault.before wells has.k (omega (arith, begin)) (slice_get_within (list_places plan) has.k has.p has.part.piece);
        breaks = λ some.
            let below : slice_index kept place < state_count fault.f.sets =
            (state-byte has.p has.tree fault.f.sets (by-state packing plan runs.packing_for kept sized has.k place high has.p has.tree placed_by) has.sets (slice_index kept place)).0
            (subst (λ bytes. IsSomeStateByte has.tree bytes) one some) in
            let much : state_count fault.f.sets ≤ slice_index kept place = subst (λ n. state_count fault.f.sets ≤ slice_index kept n) fault.begin_kept fault.breaks in
            absurd (omega (arith, below, much));
      }
