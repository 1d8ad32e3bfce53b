-- Fields at rest, one behind the other: what they are unpacked to, and what is kept of them.
use Rattle.std.proofs.Common.{◌≡◌, ◌⊎◌, ℕ, zero, suc, ◌+◌, ◌-◌, ◌<◌, ◌≤◌, List, [], ◌∷◌, ◌++◌, length, drop, replicate, get_or, Some, slice_get, slice_range, refl, sym, ap, subst, ◌∙◌, inl, inr, arith, append_assoc}
use Rattle.std.specs.Prelude.{slice_index}
use Rattle.std.proofs.lemmas.Bool.{cases_eq}
use Rattle.std.proofs.lemmas.Grind.{same_number_lists}
use Rattle.std.proofs.lemmas.List.{get_or-replicate, length-replicate, replicate-append-replicate}
use Rattle.std.proofs.lemmas.Option.{same_Some, slice_get_within}
use Rattle.hs_base.specs.Contexts.{prev_number}
use Rattle.hs_base.specs.declared.context.Prev.{Prev}
use Rattle.hs_base.specs.Lists.{Each}
use Rattle.hs_base.proofs.RegionLemmas.{get-range, range-size}
use Rattle.hs_states.specs.DfaStates.{kept_prev}
use Rattle.hs_states.specs.StateSets.{prev_of, set_bytes, set_width, state_count}
use Rattle.hs_states.specs.declared.state_sets.StateSets.{StateSets}
use Rattle.hs_kept.specs.StateFields.{AreFieldsApart, IsNextField, end_of}
use Rattle.hs_kept.specs.Rests.{IsAtRest, IsRestNumber, prev-back, prev_by_number}
use Rattle.hs_bits.specs.Zeros.{IsZeroBetween}
use Rattle.hs_kept.specs.Packing.{IsNumberFor, known, unknown, region_from}
use Rattle.hs_kept.specs.Groups.{IsPackedUpTo}
use Rattle.hs_kept.specs.declared.packing.StateField.{StateField}
use Rattle.hs_kept.proofs.CopyLemmas.{packed-more}
use Rattle.hs_kept.proofs.FieldLemmas.{apart-next}

-- ---- bytes

pub zeros-range : (xs : List ℕ) (a b : ℕ) → a ≤ b → b ≤ length xs → IsZeroBetween xs a b → slice_range xs a b ≡ replicate (b - a) 0
zeros-range xs a b order within zeros =
    let size : length (slice_range xs a b) ≡ b - a = range-size xs a b order within in
    same_number_lists (slice_range xs a b) (replicate (b - a) 0) (size ∙ sym (length-replicate {A = ℕ} (b - a) 0))
    (λ i below.
    let inner : i < b - a = omega (arith, below, size) in
    get-range xs a b i inner ∙ (zeros (a + i) (omega arith) (omega (arith, inner)) ∙ sym (get_or-replicate (b - a) i 0 0 inner)))

-- from one place to before the other the same bytes
abbrev pub AreAlikeIn : (xs ys : List ℕ) (a b : ℕ) → Type 0
AreAlikeIn xs ys a b = (k : ℕ) → a ≤ k → k < b → slice_index xs k ≡ slice_index ys k

pub alike-in : (xs ys : List ℕ) (a b : ℕ) → slice_range xs a b ≡ slice_range ys a b → AreAlikeIn xs ys a b
alike-in xs ys a b same k low high =
    let e : a + (k - a) ≡ k = omega (arith, low) in
    let inner : k - a < b - a = omega (arith, low, high) in
    ap (λ n. get_or xs n 0) (sym e)
    ∙ (sym (get-range xs a b (k - a) inner) ∙ (ap (λ zs. get_or zs (k - a) 0) same ∙ (get-range ys a b (k - a) inner ∙ ap (λ n. get_or ys n 0) e)))

pub zeros-join : (a b : ℕ) (tail : List ℕ) → replicate a 0 ++ (replicate b 0 ++ tail) ≡ replicate (a + b) 0 ++ tail
zeros-join a b tail = sym (append_assoc (replicate a 0) (replicate b 0) tail) ∙ ap (λ zs. zs ++ tail) (replicate-append-replicate a b 0)

-- ---- numbers

same-prev : (p q : Prev) → (p ≡ q) ⊎ (p ≡ q → ⊥)
same-prev p q = elim (cases_eq (prev_number p) (prev_number q)) [
  | inl same ↦ inl (sym (prev-back p) ∙ (ap prev_by_number same ∙ prev-back q))
  | inr apart ↦ inr (λ e. apart (ap prev_number e))
]

pub rest-number : (sets : StateSets) (prev : Prev) (n : ℕ) → IsRestNumber sets prev n → IsNumberFor sets (replicate (set_width sets) 0) prev n
rest-number sets prev n is = elim (same-prev (prev_of sets n) (kept_prev sets.has_assertion prev)) [
  | inl same ↦ known is.0 is.1.0 same
  | inr apart ↦ unknown (λ m within set stands. apart (is.1.1.0 m within set stands)) (is.1.1.1 apart)
]

-- and the other way, where the number is that of a state of no position
pub number-rests : (sets : StateSets) (prev : Prev) (n : ℕ) → n < state_count sets → set_bytes sets n ≡ replicate (set_width sets) 0 →
    IsNumberFor sets (replicate (set_width sets) 0) prev n → IsRestNumber sets prev n
number-rests sets prev n within none (known below set stands) = (within, (none, ((λ m low has before. stands), (λ apart. absurd (apart stands)))))
number-rests sets prev n within none (unknown never first) = (within, (none, ((λ m low has before. absurd (never m low has before)), (λ apart. first))))

-- ---- a group

pub each-drop : (P : StateField → Type 0) (n : ℕ) (fs : List StateField) → Each P fs → Each P (drop n fs)
each-drop P zero fs each = each
each-drop P (suc n) [] each = tt
each-drop P (suc n) (f ∷ fs) each = each-drop P n fs each.1

-- The last field of a group lies behind where the group begins, and within both.
pub record IsLastField (last : StateField) (at place r s : ℕ) : Type 0 where
  pub behind : at ≤ last.at
  pub some : last.at < end_of last
  pub place_behind : place ≤ last.place
  pub within : end_of last ≤ r
  pub place_within : last.place < s

pub group-order : (gs : List StateField) (n : ℕ) (last : StateField) (at place r s : ℕ) → slice_get gs n ≡ Some last → AreFieldsApart gs at place r s → IsLastField last at place r s
group-order [] n last at place r s there apart = absurd (let e : n < 0 = slice_get_within [] n last there in omega (arith, e))
group-order (g ∷ gs) zero last at place r s there apart =
    let next : IsNextField g at place r s = apart-next g gs at place r s apart in
    subst (λ z. IsLastField z at place r s) (same_Some g last there)
    (record { behind = apart.0; some = apart.1.1.0; place_behind = next.place_behind; within = next.within; place_within = next.place_within })
group-order (g ∷ gs) (suc n) last at place r s there apart =
    let next : IsNextField g at place r s = apart-next g gs at place r s apart in
    let rest : IsLastField last (end_of g) (suc g.place) r s = group-order gs n last (end_of g) (suc g.place) r s there apart.1.1.1 in
    record {
      behind = omega (arith, apart.0, rest.behind);
      some = rest.some;
      place_behind = omega (arith, next.place_behind, rest.place_behind);
      within = rest.within;
      place_within = rest.place_within;
    }

-- behind the group the fields lie apart
pub group-apart : (gs : List StateField) (n : ℕ) (last : StateField) (at place r s : ℕ) → slice_get gs n ≡ Some last → AreFieldsApart gs at place r s →
    AreFieldsApart (drop (suc n) gs) (end_of last) (suc last.place) r s
group-apart [] n last at place r s there apart = absurd (let e : n < 0 = slice_get_within [] n last there in omega (arith, e))
group-apart (g ∷ gs) zero last at place r s there apart = subst (λ z. AreFieldsApart gs (end_of z) (suc z.place) r s) (same_Some g last there) apart.1.1.1
group-apart (g ∷ gs) (suc n) last at place r s there apart = group-apart gs n last (end_of g) (suc g.place) r s there apart.1.1.1

-- and the row has the numbers of rest
pub group-rests : (gs : List StateField) (n : ℕ) (last : StateField) (place : ℕ) (prev : Prev) (row : List ℕ) → slice_get gs n ≡ Some last → IsAtRest gs place prev row →
    IsAtRest (drop (suc n) gs) (suc last.place) prev row
group-rests [] n last place prev row there rests = absurd (let e : n < 0 = slice_get_within [] n last there in omega (arith, e))
group-rests (g ∷ gs) zero last place prev row there rests = subst (λ z. IsAtRest gs (suc z.place) prev row) (same_Some g last there) rests.1.1
group-rests (g ∷ gs) (suc n) last place prev row there rests = group-rests gs n last (suc g.place) prev row there rests.1.1

-- one field that is kept as in a row of rest
field-unpacks : (f : StateField) (place at : ℕ) (prev : Prev) (row kept tail : List ℕ) → place ≤ f.place → at ≤ f.at → f.at + place ≡ at + f.place → f.place < length kept →
    IsZeroBetween row place f.place → IsRestNumber f.sets prev (slice_index row f.place) → AreAlikeIn kept row place (suc f.place) →
    slice_range kept place f.place ++ (set_bytes f.sets (slice_index kept f.place) ++ tail) ≡ replicate (end_of f - at) 0 ++ tail
field-unpacks f place at prev row kept tail order behind alike within zeros is same =
    let gap : slice_range kept place f.place ≡ replicate (f.place - place) 0 =
    zeros-range kept place f.place order (omega (arith, within)) (λ k low high. same k low (omega (arith, high)) ∙ zeros k low high) in
    let set : set_bytes f.sets (slice_index kept f.place) ≡ replicate (set_width f.sets) 0 =
    ap (λ n. set_bytes f.sets n) (same f.place order (omega arith)) ∙ is.1.0 in
    let e : (f.place - place) + set_width f.sets ≡ end_of f - at = omega (arith, order, behind, alike) in
    ap (λ zs. zs ++ (set_bytes f.sets (slice_index kept f.place) ++ tail)) gap
    ∙ (ap (λ zs. replicate (f.place - place) 0 ++ (zs ++ tail)) set ∙ (zeros-join (f.place - place) (set_width f.sets) tail ∙ ap (λ n. replicate n 0 ++ tail) e))

-- a group that is kept as in a row of rest is unpacked to zeros
pub group-unpacks : (gs : List StateField) (n : ℕ) (last : StateField) (at place r s : ℕ) (prev : Prev) (row kept : List ℕ) → slice_get gs n ≡ Some last → AreFieldsApart gs at place r s →
    length kept ≡ s → IsAtRest gs place prev row → AreAlikeIn kept row place (suc last.place) →
    region_from gs place kept ≡ replicate (end_of last - at) 0 ++ region_from (drop (suc n) gs) (suc last.place) kept
group-unpacks [] n last at place r s prev row kept there apart sized rests same = absurd (let e : n < 0 = slice_get_within [] n last there in omega (arith, e))
group-unpacks (g ∷ gs) zero last at place r s prev row kept there apart sized rests same =
    let next : IsNextField g at place r s = apart-next g gs at place r s apart in
    let e : g ≡ last = same_Some g last there in
    subst (λ z. region_from (g ∷ gs) place kept ≡ replicate (end_of z - at) 0 ++ region_from gs (suc z.place) kept) e
    (field-unpacks g place at prev row kept (region_from gs (suc g.place) kept) next.place_behind next.behind next.alike (omega (arith, next.place_within, sized)) rests.0 rests.1.0
    (subst (λ z. AreAlikeIn kept row place (suc z.place)) (sym e) same))
group-unpacks (g ∷ gs) (suc n) last at place r s prev row kept there apart sized rests same =
    let next : IsNextField g at place r s = apart-next g gs at place r s apart in
    let order : IsLastField last (end_of g) (suc g.place) r s = group-order gs n last (end_of g) (suc g.place) r s there apart.1.1.1 in
    let tail : List ℕ = region_from (drop (suc n) gs) (suc last.place) kept in
    let own : region_from (g ∷ gs) place kept ≡ replicate (end_of g - at) 0 ++ region_from gs (suc g.place) kept =
    field-unpacks g place at prev row kept (region_from gs (suc g.place) kept) next.place_behind next.behind next.alike (omega (arith, next.place_within, sized)) rests.0 rests.1.0
    (λ k low high. same k low (omega (arith, high, order.place_behind))) in
    let others : region_from gs (suc g.place) kept ≡ replicate (end_of last - end_of g) 0 ++ tail =
    group-unpacks gs n last (end_of g) (suc g.place) r s prev row kept there apart.1.1.1 sized rests.1.1
    (λ k low high. same k (omega (arith, low, next.place_behind)) high) in
    let some : g.at < end_of g = apart.1.1.0 in
    let e : (end_of g - at) + (end_of last - end_of g) ≡ end_of last - at = omega (arith, next.behind, some, order.behind, order.some) in
    own ∙ (ap (λ zs. replicate (end_of g - at) 0 ++ zs) others ∙ (zeros-join (end_of g - at) (end_of last - end_of g) tail ∙ ap (λ m. replicate m 0 ++ tail) e))

-- one field of zeros that is kept as in a row of rest
field-packs : (fields fs : List StateField) (f : StateField) (at place r s : ℕ) (prev : Prev) (row region kept : List ℕ) → IsNextField f at place r s → f.at < end_of f → length region ≡ r → length kept ≡ s →
    IsZeroBetween row place f.place → IsRestNumber f.sets prev (slice_index row f.place) → AreAlikeIn kept row place (suc f.place) → IsZeroBetween region at (end_of f) →
    IsPackedUpTo fields (f ∷ fs) at place region prev kept → IsPackedUpTo fields fs (end_of f) (suc f.place) region prev kept
field-packs fields fs f at place r s prev row region kept next some sized sized' zeros is same none so_far =
    let gap : slice_range region at f.at ≡ replicate (f.at - at) 0 =
    zeros-range region at f.at next.behind (omega (arith, next.within, some, sized)) (λ k low high. none k low (omega (arith, high, some))) in
    let gap' : slice_range kept place f.place ≡ replicate (f.place - place) 0 =
    zeros-range kept place f.place next.place_behind (omega (arith, next.place_within, sized')) (λ k low high. same k low (omega (arith, high)) ∙ zeros k low high) in
    let wide : f.at - at ≡ f.place - place = omega (arith, next.behind, next.place_behind, next.alike) in
    let set : slice_range region f.at (end_of f) ≡ replicate (end_of f - f.at) 0 =
    zeros-range region f.at (end_of f) (omega (arith, some)) (omega (arith, next.within, sized)) (λ k low high. none k (omega (arith, low, next.behind)) high) in
    let width : end_of f - f.at ≡ set_width f.sets = omega arith in
    let number : IsNumberFor f.sets (replicate (set_width f.sets) 0) prev (slice_index kept f.place) =
    subst (λ n. IsNumberFor f.sets (replicate (set_width f.sets) 0) prev n) (sym (same f.place next.place_behind (omega arith))) (rest-number f.sets prev (slice_index row f.place) is) in
    packed-more fields f fs at place r s region prev kept kept next so_far refl (gap ∙ (ap (λ n. replicate n 0) wide ∙ sym gap'))
    (subst (λ zs. IsNumberFor f.sets zs prev (slice_index kept f.place)) (sym (set ∙ ap (λ n. replicate n 0) width)) number)

-- a group of zeros that is kept as in a row of rest is packed
pub group-packs : (fields gs : List StateField) (n : ℕ) (last : StateField) (at place r s : ℕ) (prev : Prev) (row region kept : List ℕ) → slice_get gs n ≡ Some last → AreFieldsApart gs at place r s →
    length region ≡ r → length kept ≡ s → IsAtRest gs place prev row → AreAlikeIn kept row place (suc last.place) → IsZeroBetween region at (end_of last) →
    IsPackedUpTo fields gs at place region prev kept → IsPackedUpTo fields (drop (suc n) gs) (end_of last) (suc last.place) region prev kept
group-packs fields [] n last at place r s prev row region kept there apart sized sized' rests same none so_far = absurd (let e : n < 0 = slice_get_within [] n last there in omega (arith, e))
group-packs fields (g ∷ gs) zero last at place r s prev row region kept there apart sized sized' rests same none so_far =
    let next : IsNextField g at place r s = apart-next g gs at place r s apart in
    let e : g ≡ last = same_Some g last there in
    subst (λ z. IsPackedUpTo fields gs (end_of z) (suc z.place) region prev kept) e
    (field-packs fields gs g at place r s prev row region kept next apart.1.1.0 sized sized' rests.0 rests.1.0
    (subst (λ z. AreAlikeIn kept row place (suc z.place)) (sym e) same) (subst (λ z. IsZeroBetween region at (end_of z)) (sym e) none) so_far)
group-packs fields (g ∷ gs) (suc n) last at place r s prev row region kept there apart sized sized' rests same none so_far =
    let next : IsNextField g at place r s = apart-next g gs at place r s apart in
    let order : IsLastField last (end_of g) (suc g.place) r s = group-order gs n last (end_of g) (suc g.place) r s there apart.1.1.1 in
    let some : g.at < end_of g = apart.1.1.0 in
    group-packs fields gs n last (end_of g) (suc g.place) r s prev row region kept there apart.1.1.1 sized sized' rests.1.1
    (λ k low high. same k (omega (arith, low, next.place_behind)) high) (λ k low high. none k (omega (arith, low, next.behind, some)) high)
    (field-packs fields gs g at place r s prev row region kept next some sized sized' rests.0 rests.1.0
    (λ k low high. same k low (omega (arith, high, order.place_behind))) (λ k low high. none k low (omega (arith, high, order.behind, order.some))) so_far)
