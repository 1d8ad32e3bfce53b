-- Where the fields of pieces are in a region, and what is kept of them.
use Rattle.std.proofs.Common.{◌≡◌, ℕ, zero, suc, ◌+◌, ◌<◌, ◌≤◌, List, [], ◌∷◌, length, map, get_or, Some, slice_get, refl, sym, ap, subst, ◌∙◌, arith}
use Rattle.std.specs.List.{AllZip}
use Rattle.std.specs.Option.{option_map}
use Rattle.std.proofs.lemmas.List.{length-map}
use Rattle.std.proofs.lemmas.Option.{slice_get-map, slice_get_within, same_Some}
use Rattle.hs_base.specs.Chains.{piece_tree}
use Rattle.hs_base.specs.KeptPieces.{form_size}
use Rattle.hs_base.specs.Regions.{IsPlaced, Place, Plan, list_places, place_size, plan_fields_at, plan_starts, sums_from}
use Rattle.hs_base.proofs.SumLemmas.{sums-above, sums-low, sums-next, sums-size}
use Rattle.hs_kept.specs.KeptRegions.{AreKeptForms, IsKeptForm, IsKeptPlaced, KeptForm, by_field, field, kept_form_size, kept_size, kept_starts, state}
use Rattle.hs_kept.proofs.PartLemmas.{form-of_state, kept-field, kept-state, kept_end}
use Rattle.hs_kept.proofs.StatePartLemmas.{get-there}

-- Pieces are kept in one way.

form-same : (p : Place) (f g : KeptForm) → IsKeptForm p f → IsKeptForm p g → f ≡ g
form-same p (field f) (field g) is other = ap field (kept-field p f is ∙ sym (kept-field p g other))
form-same p (state t) (state s) is other = ap state (ap piece_tree (sym (kept-state p t is).expression ∙ (kept-state p s other).expression))
form-same p (state t) (field g) is (by_field never) = absurd (never t (kept-state p t is))
form-same p (field f) (state t) (by_field never) other = absurd (never t (kept-state p t other))

pub forms-same : (ps : List Place) (xs ys : List KeptForm) → AllZip IsKeptForm ps xs → AllZip IsKeptForm ps ys → xs ≡ ys
forms-same [] [] [] zip other = refl
forms-same [] [] (y ∷ ys) zip other = absurd other
forms-same [] (x ∷ xs) ys zip other = absurd zip
forms-same (p ∷ ps) [] ys zip other = absurd zip
forms-same (p ∷ ps) (x ∷ xs) [] zip other = absurd other
forms-same (p ∷ ps) (x ∷ xs) (y ∷ ys) zip other = ap (λ z. z ∷ xs) (form-same p x y zip.0 other.0) ∙ ap (λ zs. y ∷ zs) (forms-same ps xs ys zip.1 other.1)

-- A piece and its form.

pub zip-count : (ps : List Place) (forms : List KeptForm) → AllZip IsKeptForm ps forms → length forms ≡ length ps
zip-count [] [] zip = refl
zip-count [] (x ∷ xs) zip = absurd zip
zip-count (p ∷ ps) [] zip = absurd zip
zip-count (p ∷ ps) (x ∷ xs) zip = ap suc (zip-count ps xs zip.1)

pub zip-both : (ps : List Place) (forms : List KeptForm) → AllZip IsKeptForm ps forms → (k : ℕ) (p : Place) (form : KeptForm) → slice_get ps k ≡ Some p → slice_get forms k ≡ Some form → IsKeptForm p form
zip-both [] forms zip k p form piece there = absurd (let e : k < 0 = slice_get_within [] k p piece in omega arith)
zip-both (q ∷ ps) [] zip k p form piece there = absurd zip
zip-both (q ∷ ps) (x ∷ xs) zip zero p form piece there =
    subst (λ z. IsKeptForm z form) (same_Some q p piece) (subst (λ z. IsKeptForm q z) (same_Some x form there) zip.0)
zip-both (q ∷ ps) (x ∷ xs) zip (suc k) p form piece there = zip-both ps xs zip.1 k p form piece there

-- What is kept of a piece takes no more bytes than its field.

pub form-no-larger : (p : Place) (form : KeptForm) → IsKeptForm p form → kept_form_size form ≤ place_size p
form-no-larger p (field form) is = let e : form_size form ≡ place_size p = ap form_size (kept-field p form is) in omega arith
form-no-larger p (state tree) is =
    let kept = kept-state p tree is in
    let e : place_size p ≡ _ = ap form_size (form-of_state p tree kept) in
    omega (arith, kept.some, e)

pub sums-no-larger : (ps : List Place) (forms : List KeptForm) (at place : ℕ) → AllZip IsKeptForm ps forms → place ≤ at →
    kept_end place forms ≤ get_or (sums_from at (map place_size ps)) (length (map place_size ps)) 0
sums-no-larger [] [] at place zip low = low
sums-no-larger [] (x ∷ xs) at place zip low = absurd zip
sums-no-larger (p ∷ ps) [] at place zip low = absurd zip
sums-no-larger (p ∷ ps) (x ∷ xs) at place zip low =
    sums-no-larger ps xs (at + place_size p) (place + kept_form_size x) zip.1 (omega (arith, form-no-larger p x zip.0))

-- Where they are.

pub wide-placed : (plan : Plan) (k : ℕ) (p : Place) → slice_get (list_places plan) k ≡ Some p → (low : ℕ) × (high : ℕ) × IsPlaced plan k p low high
wide-placed plan k p piece =
    let within : k < length (list_places plan) = slice_get_within (list_places plan) k p piece in
    let count : length (plan_starts plan) ≡ suc (length (map place_size (list_places plan))) = sums-size (plan_fields_at plan) (map place_size (list_places plan)) in
    let count2 : length (map place_size (list_places plan)) ≡ length (list_places plan) = length-map (list_places plan) place_size in
    let (low, begin) = get-there (plan_starts plan) k (omega arith) in
    let (high, end) = get-there (plan_starts plan) (suc k) (omega arith) in
    (low, high, record { piece = piece; begin = begin; end = end })

module _ (plan : Plan) (forms : List KeptForm) (are : AreKeptForms plan forms) where
  pub kept-high : (k low high : ℕ) (p : Place) (form : KeptForm) → IsKeptPlaced plan forms k p form low high → high ≡ low + kept_form_size form
  kept-high k low high p form placed =
      let size : slice_get (map kept_form_size forms) k ≡ Some (kept_form_size form) = slice_get-map kept_form_size forms k ∙ ap (option_map kept_form_size) placed.kept in
      same_Some high (low + kept_form_size form) (sym placed.end ∙ sums-next (plan_fields_at plan) (map kept_form_size forms) k low (kept_form_size form) placed.begin size)

  pub kept-within : (k low high : ℕ) (p : Place) (form : KeptForm) → IsKeptPlaced plan forms k p form low high → high ≤ kept_size plan forms
  kept-within k low high p form placed = sums-above (plan_fields_at plan) (map kept_form_size forms) (suc k) high placed.end

  pub header-within : plan_fields_at plan ≤ kept_size plan forms
  header-within = sums-low (plan_fields_at plan) (map kept_form_size forms)

  pub kept-placed : (k : ℕ) (p : Place) → slice_get (list_places plan) k ≡ Some p →
      (form : KeptForm) × (low : ℕ) × (high : ℕ) × IsKeptPlaced plan forms k p form low high
  kept-placed k p piece =
      let within : k < length (list_places plan) = slice_get_within (list_places plan) k p piece in
      let count : length (kept_starts plan forms) ≡ suc (length (map kept_form_size forms)) = sums-size (plan_fields_at plan) (map kept_form_size forms) in
      let count2 : length (map kept_form_size forms) ≡ length forms = length-map forms kept_form_size in
      let count3 : length forms ≡ length (list_places plan) = zip-count (list_places plan) forms are in
      let (form, there) = get-there forms k (omega arith) in
      let (low, begin) = get-there (kept_starts plan forms) k (omega arith) in
      let (high, end) = get-there (kept_starts plan forms) (suc k) (omega arith) in
      (form, low, high, record { piece = piece; kept = there; begin = begin; end = end })

  pub kept-form : (k low high : ℕ) (p : Place) (form : KeptForm) → IsKeptPlaced plan forms k p form low high → IsKeptForm p form
  kept-form k low high p form placed = zip-both (list_places plan) forms are k p form placed.piece placed.kept
