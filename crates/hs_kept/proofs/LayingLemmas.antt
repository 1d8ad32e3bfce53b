-- The fields of candidates in a layout.
use Rattle.std.proofs.Common.{◌≡◌, ℕ, zero, suc, ◌+◌, ◌-◌, ◌/◌, ◌<◌, ◌≤◌, false, List, [], ◌∷◌, ◌++◌, length, map, flat_map, drop, refl, sym, ap, ◌∙◌, subst, arith, append-nil, append_assoc}
use Rattle.std.specs.Prelude.{slice_index}
use Rattle.std.specs.List.{AllZip}
use Rattle.std.proofs.lemmas.List.Folds.{flat_map-map}
use Rattle.hs_base.specs.Chains.{chains_of}
use Rattle.hs_base.specs.KeptPieces.{form_of, form_size}
use Rattle.hs_base.specs.Patterns.{Pattern}
use Rattle.hs_base.specs.Regions.{Place, Plan, fields_at, list_places, place_form, place_size, places_of, plan_size, sums_from}
use Rattle.hs_base.specs.Trees.{Tree}
use Rattle.hs_base.proofs.SumLemmas.{sums-low, sums-size}
use Rattle.hs_base.specs.WrittenOut.{count, write_out}
use Rattle.hs_layout.specs.Layouts.{Laid, laid_size}
use Rattle.hs_states.specs.declared.state_sets.StateSets.{StateSets}
use Rattle.hs_states.specs.StateSets.{AreSetsOf, set_width}
use Rattle.hs_kept.specs.declared.builder.Candidate.{Candidate}
use Rattle.hs_kept.specs.declared.builder.PackingBuilder.{PackingBuilder}
use Rattle.hs_kept.specs.declared.packing.Packing.{Packing}
use Rattle.hs_kept.specs.declared.packing.StateField.{StateField}
use Rattle.hs_kept.specs.KeptRegions as kept
use Rattle.hs_kept.specs.KeptRegions.{AreKeptForms, IsKeptByState, IsKeptForm, KeptForm, kept_form_size, kept_size, kept_starts}
use Rattle.hs_kept.specs.StateFields.{AreFieldsApart}
use Rattle.hs_kept.specs.Packing.{AreStateFields, IsPackingFor, packed_size, unpacked_size}
use Rattle.hs_kept.specs.Packing as fields
use Rattle.hs_kept.specs.Builders.{AreCandidates, HasCandidates, IsBuiltForPlan, IsKeptByField, places_in_chain, places_in_chains, places_in_list}
use Rattle.hs_kept.specs.Builders as candidates

-- ---- what a loop over candidates makes

-- their fields, where those before save so many bytes
abbrev pub fields_from : (starts : List ℕ) → List Candidate → (saved : ℕ) → List StateField
fields_from starts [] saved = []
fields_from starts (c ∷ cs) saved =
    record { at = slice_index starts c.number; place = slice_index starts c.number - saved; sets = c.sets }
    ∷ fields_from starts cs (saved + (set_width c.sets - 1))

-- how many bytes are saved in all
abbrev pub saved_by : List Candidate → (saved : ℕ) → ℕ
saved_by [] saved = saved
saved_by (c ∷ cs) saved = saved_by cs (saved + (set_width c.sets - 1))

-- The pieces that are left have these candidates, and their first field begins at that byte, of which so many are saved.
pub record AreLeft (starts : List ℕ) (cs : List Candidate) (saved : ℕ) : Type 0 where
  pub places : List Place
  pub number : ℕ
  pub at : ℕ
  pub are : AreCandidates places cs number
  pub begin : drop number starts ≡ sums_from at (map place_size places)
  pub saved_below : saved ≤ at

-- What is known of the next candidate.
pub record IsNextCandidate (starts : List ℕ) (c : Candidate) (cs : List Candidate) (saved : ℕ) : Type 0 where
  pub there : c.number < length starts
  pub saved_below : saved ≤ slice_index starts c.number
  pub some : 0 < set_width c.sets
  pub left : AreLeft starts cs (saved + (set_width c.sets - 1))

-- What is left while the fields are made: those that are made and those that are left are all.
pub record IsLaying (starts : List ℕ) (all rest : List Candidate) (done : List StateField) (saved : ℕ) : Type 0 where
  pub left : AreLeft starts rest saved
  pub fields : done ++ fields_from starts rest saved ≡ fields_from starts all 0
  pub saves : saved_by rest saved ≡ saved_by all 0

-- ---- one piece

state-size : (p : Place) (tree : Tree) → IsKeptByState p tree → place_size p ≡ (count (write_out tree) + 7) / 8
state-size p tree is =
    ap (λ l. form_size (form_of l p.pieces p.piece)) is.ahead
    ∙ (ap (λ xs. form_size (form_of false xs p.piece)) is.first ∙ ap (λ x. form_size (form_of false [] x)) is.expression)

-- the set of a state has as many bytes as the field
state-width : (p : Place) (tree : Tree) (sets : StateSets) → IsKeptByState p tree → AreSetsOf sets tree → set_width sets ≡ place_size p
state-width p tree sets is are = are.width ∙ sym (state-size p tree is)

-- which are some
state-some : (p : Place) (tree : Tree) (sets : StateSets) → IsKeptByState p tree → AreSetsOf sets tree → 0 < set_width sets
state-some p tree sets is are = let some = is.some in let width = are.width in omega (arith, some, width)

-- the numbers from a place on, of which the first is known
pub record BeginsWith (xs : List ℕ) (n y : ℕ) (ys : List ℕ) : Type 0 where
  pub rest : drop (suc n) xs ≡ ys
  pub first : slice_index xs n ≡ y
  pub there : n < length xs

begins : (xs : List ℕ) (n y : ℕ) (ys : List ℕ) → drop n xs ≡ y ∷ ys → BeginsWith xs n y ys
begins [] zero y ys same = absurd (let e = ap length same in omega (arith, e))
begins [] (suc n) y ys same = absurd (let e = ap length same in omega (arith, e))
begins (x ∷ xs) zero y ys same = record { rest = ap (drop 1) same; first = ap (λ l. slice_index l 0) same; there = omega arith }
begins (x ∷ xs) (suc n) y ys same =
    let more = begins xs n y ys same in
    record { rest = more.rest; first = more.first; there = let t = more.there in omega (arith, t) }

-- ---- the next candidate

next-from : (starts : List ℕ) (places : List Place) (c : Candidate) (cs : List Candidate) (number at saved : ℕ) → AreCandidates places (c ∷ cs) number →
    drop number starts ≡ sums_from at (map place_size places) → saved ≤ at → IsNextCandidate starts c cs saved
next-from starts _ c cs number at saved (candidates.field {p = p} {ps = ps} keeps rest) begin below =
    next-from starts ps c cs (suc number) (at + place_size p) saved rest (begins starts number at (sums_from (at + place_size p) (map place_size ps)) begin).rest (omega (arith, below))
next-from starts _ c cs number at saved (candidates.state {p = p} {ps = ps} tree keeps own are rest) begin below =
    let here = begins starts number at (sums_from (at + place_size p) (map place_size ps)) begin in
    let width = state-width p tree c.sets keeps are in
    let some = state-some p tree c.sets keeps are in
    record {
      there = subst (λ n. n < length starts) (sym own) here.there;
      saved_below = subst (λ n. saved ≤ slice_index starts n) (sym own) (subst (λ n. saved ≤ n) (sym here.first) below);
      some = some;
      left = record { places = ps; number = suc number; at = at + place_size p; are = rest; begin = here.rest; saved_below = omega (arith, below, width, some) };
    }

pub next-candidate : (starts : List ℕ) (c : Candidate) (cs : List Candidate) (saved : ℕ) → AreLeft starts (c ∷ cs) saved → IsNextCandidate starts c cs saved
next-candidate starts c cs saved left = next-from starts left.places c cs left.number left.at saved left.are left.begin left.saved_below

-- ---- all of them

-- where parts of these sizes end
abbrev end_from : (at : ℕ) (sizes : List ℕ) → ℕ
end_from at sizes = slice_index (sums_from at sizes) (length sizes)

-- The pieces have these candidates, and the fields of these are those of the pieces.
pub record AreLaid (starts : List ℕ) (places : List Place) (cs : List Candidate) (at place saved : ℕ) : Type 0 where
  pub forms : List KeptForm
  pub are : AllZip IsKeptForm places forms
  pub fields : AreStateFields places forms (fields_from starts cs saved) at place
  pub size : end_from place (map kept_form_size forms) + saved_by cs saved ≡ end_from at (map place_size places)

laid-from : (starts : List ℕ) (places : List Place) (cs : List Candidate) (number at place saved : ℕ) → AreCandidates places cs number →
    drop number starts ≡ sums_from at (map place_size places) → place + saved ≡ at → AreLaid starts places cs at place saved
laid-from starts _ _ number at place saved candidates.none begin same = record { forms = []; are = tt; fields = fields.none; size = same }
laid-from starts _ cs number at place saved (candidates.field {p = p} {ps = ps} keeps rest) begin same =
    let here = begins starts number at (sums_from (at + place_size p) (map place_size ps)) begin in
    let more = laid-from starts ps cs (suc number) (at + place_size p) (place + place_size p) saved rest here.rest (omega (arith, same)) in
    record {
      forms = kept.field (place_form p) ∷ more.forms;
      are = (kept.by_field keeps, more.are);
      fields = fields.by_field refl more.fields;
      size = more.size;
    }
laid-from starts _ _ number at place saved (candidates.state {p = p} {ps = ps} {c = c} {cs = cs} tree keeps own are rest) begin same =
    let here = begins starts number at (sums_from (at + place_size p) (map place_size ps)) begin in
    let width = state-width p tree c.sets keeps are in
    let some = state-some p tree c.sets keeps are in
    let more = laid-from starts ps cs (suc number) (at + place_size p) (suc place) (saved + (set_width c.sets - 1)) rest here.rest (omega (arith, same, width, some)) in
    let begins_at : slice_index starts c.number ≡ at = ap (slice_index starts) own ∙ here.first in
    record {
      forms = kept.state tree ∷ more.forms;
      are = (kept.by_state tree keeps, more.are);
      fields = fields.by_state tree begins_at (omega (arith, begins_at, same)) are more.fields;
      size = ap (λ n. end_from n (map kept_form_size more.forms) + saved_by cs (saved + (set_width c.sets - 1))) (let e : place + 1 ≡ suc place = omega arith in e) ∙ more.size;
    }

apart-from : (starts : List ℕ) (places : List Place) (cs : List Candidate) (number at saved before place r s : ℕ) → AreCandidates places cs number →
    drop number starts ≡ sums_from at (map place_size places) → before ≤ at → place + saved ≡ before →
    end_from at (map place_size places) ≡ r → s + saved_by cs saved ≡ r → AreFieldsApart (fields_from starts cs saved) before place r s
apart-from starts _ _ number at saved before place r s candidates.none begin order same all rest_is = (omega (arith, order, same, all, rest_is), omega (arith, order, same, all, rest_is))
apart-from starts _ cs number at saved before place r s (candidates.field {p = p} {ps = ps} keeps rest) begin order same all rest_is =
    let here = begins starts number at (sums_from (at + place_size p) (map place_size ps)) begin in
    apart-from starts ps cs (suc number) (at + place_size p) saved before place r s rest here.rest (omega (arith, order)) same all rest_is
apart-from starts _ _ number at saved before place r s (candidates.state {p = p} {ps = ps} {c = c} {cs = cs} tree keeps own are rest) begin order same all rest_is =
    let here = begins starts number at (sums_from (at + place_size p) (map place_size ps)) begin in
    let width = state-width p tree c.sets keeps are in
    let some = state-some p tree c.sets keeps are in
    let begins_at : slice_index starts c.number ≡ at = ap (slice_index starts) own ∙ here.first in (
      omega (arith, begins_at, order),
      (
        omega (arith, begins_at, order, same),
        (
          omega (arith, some),
          apart-from starts ps cs (suc number) (at + place_size p) (saved + (set_width c.sets - 1)) (slice_index starts c.number + set_width c.sets) (suc (slice_index starts c.number - saved)) r s rest here.rest
              (omega (arith, begins_at, width)) (omega (arith, begins_at, order, same, some)) all rest_is,
        ),
      ),
    )

-- ---- a loop over candidates

-- the candidate that comes next
pub next-of : (starts : List ℕ) (all cs rest : List Candidate) (c : Candidate) (done : List StateField) (saved : ℕ) → cs ≡ c ∷ rest →
    IsLaying starts all cs done saved → IsNextCandidate starts c rest saved
next-of starts all cs rest c done saved same laying = next-candidate starts c rest saved (subst (λ xs. AreLeft starts xs saved) same laying.left)

-- one more
pub laying-more : (starts : List ℕ) (all cs rest : List Candidate) (c : Candidate) (done : List StateField) (saved : ℕ) (f : StateField) →
    f.at ≡ slice_index starts c.number → f.place ≡ f.at - saved → f.sets ≡ c.sets → cs ≡ c ∷ rest →
    IsLaying starts all cs done saved → IsLaying starts all rest (done ++ f ∷ []) (saved + (set_width c.sets - 1))
laying-more starts all cs rest c done saved f at place sets split is =
    let was : IsLaying starts all (c ∷ rest) done saved = subst (λ xs. IsLaying starts all xs done saved) split is in
    let own : StateField = record { at = slice_index starts c.number; place = slice_index starts c.number - saved; sets = c.sets } in
    let same : f ≡ own = same-field f own at (place ∙ ap (λ n. n - saved) at) sets in
    record {
      left = (next-candidate starts c rest saved was.left).left;
      fields = append_assoc done (f ∷ []) (fields_from starts rest (saved + (set_width c.sets - 1)))
          ∙ (ap (λ g. done ++ g ∷ fields_from starts rest (saved + (set_width c.sets - 1))) same ∙ was.fields);
      saves = was.saves;
    }
  where
    same-field : (f g : StateField) → f.at ≡ g.at → f.place ≡ g.place → f.sets ≡ g.sets → f ≡ g
    same-field f g at place sets =
        ap (λ n. record { at = n; place = f.place; sets = f.sets }) at
        ∙ (ap (λ n. record { at = g.at; place = n; sets = f.sets }) place ∙ ap (λ s. record { at = g.at; place = g.place; sets = s }) sets)

module _ (b : PackingBuilder) (l : Laid) (plan : Plan) (is : IsBuiltForPlan b l plan) where
  same-places : places_in_list (map (λ (x : Pattern). chains_of x.tree) plan.patterns) ≡ list_places plan
  same-places =
      flat_map-map places_in_chains (λ (x : Pattern). chains_of x.tree) plan.patterns
      ∙ ap (λ looks_back. flat_map (places_of looks_back) plan.patterns) (sym is.looks_back)

  own-candidates : AreCandidates (list_places plan) b.candidates.items 0
  own-candidates = subst (λ ps. AreCandidates ps b.candidates.items 0) same-places is.packed.candidates

  own-starts : l.starts ≡ sums_from (fields_at (length plan.singles) (length plan.identifiers)) (map place_size (list_places plan))
  own-starts = ap (λ (x : Laid). x.starts) is.layout

  own-size : laid_size l ≡ plan_size plan
  own-size =
      let sums = sums_from (fields_at (length plan.singles) (length plan.identifiers)) (map place_size (list_places plan)) in
      let size : length sums - 1 ≡ length (map place_size (list_places plan)) =
      (let e = sums-size (fields_at (length plan.singles) (length plan.identifiers)) (map place_size (list_places plan)) in omega (arith, e)) in
      ap laid_size is.layout ∙ ap (slice_index sums) size

  pub own-laid : AreLaid l.starts (list_places plan) b.candidates.items (fields_at (length plan.singles) (length plan.identifiers)) (fields_at (length plan.singles) (length plan.identifiers)) 0
  own-laid =
      laid-from l.starts (list_places plan) b.candidates.items 0 (fields_at (length plan.singles) (length plan.identifiers)) (fields_at (length plan.singles) (length plan.identifiers)) 0
      own-candidates own-starts (omega arith)

  -- before the first candidate
  pub laying-none : IsLaying l.starts b.candidates.items b.candidates.items [] 0
  laying-none = record {
    left = record { places = list_places plan; number = 0; at = fields_at (length plan.singles) (length plan.identifiers); are = own-candidates; begin = own-starts; saved_below = omega arith };
    fields = refl;
    saves = refl;
  }

  pub header-within : 72 ≤ laid_size l
  header-within = let low = sums-low (fields_at (length plan.singles) (length plan.identifiers)) (map place_size (list_places plan)) in omega (arith, low, own-size)

  module _ (fs : List StateField) (saved : ℕ) (done : IsLaying l.starts b.candidates.items [] fs saved) where
    all-fields : fs ≡ fields_from l.starts b.candidates.items 0
    all-fields = sym (append-nil fs) ∙ done.fields

    pub sizes-add : kept_size plan own-laid.forms + saved ≡ laid_size l
    sizes-add = let size = own-laid.size in let saves = done.saves in omega (arith, size, saves, own-size)

    pub saved-within : saved ≤ laid_size l
    saved-within = omega (arith, sizes-add)

    pub fields-apart : AreFieldsApart fs 0 0 (laid_size l) (laid_size l - saved)
    fields-apart =
        subst (λ gs. AreFieldsApart gs 0 0 (laid_size l) (laid_size l - saved)) (sym all-fields)
        (apart-from l.starts (list_places plan) b.candidates.items 0 (fields_at (length plan.singles) (length plan.identifiers)) 0 0 0 (laid_size l) (laid_size l - saved)
        own-candidates own-starts (omega arith) (omega arith) (sym own-size) (let saves = done.saves in omega (arith, saved-within, saves)))

    -- so the packing is that of the plan's regions
    pub packing-for : (packing : Packing) → packing.fields.items ≡ fs → unpacked_size packing ≡ laid_size l → packed_size packing ≡ laid_size l - saved → IsPackingFor packing plan
    packing-for packing same whole small = record {
      forms = own-laid.forms;
      are = own-laid.are;
      size = omega (arith, small, sizes-add);
      region_size = whole ∙ own-size;
      fields = subst (λ gs. AreStateFields (list_places plan) own-laid.forms gs (fields_at (length plan.singles) (length plan.identifiers)) (fields_at (length plan.singles) (length plan.identifiers)))
          (sym (same ∙ all-fields)) own-laid.fields;
    }

-- none is left
pub laying-all : (starts : List ℕ) (all cs : List Candidate) (done : List StateField) (saved : ℕ) → length cs ≡ 0 → IsLaying starts all cs done saved → IsLaying starts all [] done saved
laying-all starts all [] done saved none is = is
laying-all starts all (c ∷ cs) done saved none is = absurd (omega (arith, none))
