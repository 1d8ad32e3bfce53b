-- Numbers by their owners.
use Rattle.std.proofs.Common.{◌≡◌, ◌⊎◌, ℕ, zero, suc, ◌+◌, ◌<◌, Bool, true, false, cond, List, [], ◌∷◌, ◌++◌, length, map, take, slice_set, slice_get, Option, Some, None, Vec, Global, refl, sym, ap, subst, ◌∙◌, inl, inr, eqb, arith}
use Rattle.std.proofs.lemmas.Bool.Decides.{nat_tests}
use Rattle.std.proofs.lemmas.List.{append-nil, length-map, length-set, length-take-le, map-append}
use Rattle.hs_forest.specs.Groups.{AreLists, IsNumberAdded, is_number, numbers_with}
use Rattle.hs_forest.specs.Views.{numbers}
use Rattle.hs_forest.proofs.ListLemmas.{get-push, take-get}

put : (b : Bool) (at : ℕ) (xs ys zs : List ℕ) → xs ≡ ys ++ zs → cond b (at ∷ xs) xs ≡ cond b (at ∷ ys) ys ++ zs
put true at xs ys zs same = ap (λ vs. at ∷ vs) same
put false at xs ys zs same = same

first-put : (b : Bool) (at : ℕ) → cond b (at ∷ []) [] ≡ [] ++ cond b (at ∷ []) []
first-put true at = refl
first-put false at = refl

-- one more node
numbers-push : (k at : ℕ) (parents : List (Option ℕ)) (p : Option ℕ) → numbers_with k at (parents ++ p ∷ []) ≡ numbers_with k at parents ++ cond (is_number k p) ((at + length parents) ∷ []) []
numbers-push k at [] p = let none : at ≡ at + 0 = omega arith in first-put (is_number k p) at ∙ ap (λ n. [] ++ cond (is_number k p) (n ∷ []) []) none
numbers-push k at (a ∷ parents) p =
    let next : suc at + length parents ≡ at + suc (length parents) = omega arith in
    put (is_number k a) at (numbers_with k (suc at) (parents ++ p ∷ [])) (numbers_with k (suc at) parents) (cond (is_number k p) ((at + suc (length parents)) ∷ []) [])
    (numbers-push k (suc at) parents p ∙ ap (λ n. numbers_with k (suc at) parents ++ cond (is_number k p) (n ∷ []) []) next)

-- the lists of the first so many nodes and one more
pub lists-step : (parents : List (Option ℕ)) (count n : ℕ) (p : Option ℕ) (before now : List (List ℕ)) → n < length parents → slice_get parents n ≡ Some p → AreLists (take n parents) count before → IsNumberAdded before p n now →
    AreLists (take (n + 1) parents) count now
lists-step parents count n p before now below at are added =
    let next : suc n ≡ n + 1 = omega arith in
    let len : 0 + length (take n parents) ≡ n = omega (arith, length-take-le n parents (omega arith)) in
    let more : take n parents ++ p ∷ [] ≡ take (n + 1) parents = sym (take-get parents n p at) ∙ ap (λ i. take i parents) next in record {
      count_is = added.count ∙ are.count_is;
      each = λ k list is.
          let own = added.each k list is in
          own.2 ∙ ap (λ xs. xs ++ cond (is_number k p) (n ∷ []) []) (are.each k own.0 own.1)
          ∙ ap (λ i. numbers_with k 0 (take n parents) ++ cond (is_number k p) (i ∷ []) []) (sym len)
          ∙ sym (numbers-push k 0 (take n parents) p) ∙ ap (λ ps. numbers_with k 0 ps) more;
    }

-- nothing is added where there is no parent
pub none-added : (lists : List (List ℕ)) (n : ℕ) → IsNumberAdded lists None n lists
none-added lists n = record { count = refl; each = λ k list at. (list, at, sym (append-nil list)) }

number-each : (lists : List (Vec ℕ Global)) (k n : ℕ) (old new : Vec ℕ Global) → slice_get lists k ≡ Some old → new.items ≡ old.items ++ n ∷ [] → (j : ℕ) (list : List ℕ) (b : Bool) → (b ≡ true → k ≡ j) → (b ≡ false → k ≡ j → ⊥) →
    slice_get (map numbers (slice_set lists k new)) j ≡ Some list → (own : List ℕ) × (slice_get (map numbers lists) j ≡ Some own) × (list ≡ own ++ cond b (n ∷ []) [])
number-each [] k n old new at grown j list b one other is = absurd (cc)
number-each (v ∷ lists) zero n old new at grown zero list true one other is = let e : v ≡ old = cc in let e' : new.items ≡ list = cc in (v.items, refl, sym e' ∙ grown ∙ ap (λ (w : Vec ℕ Global). w.items ++ n ∷ []) (sym e))
number-each (v ∷ lists) zero n old new at grown zero list false one other is = absurd (other refl refl)
number-each (v ∷ lists) zero n old new at grown (suc j) list true one other is = absurd (omega (arith, one refl))
number-each (v ∷ lists) zero n old new at grown (suc j) list false one other is = (list, is, sym (append-nil list))
number-each (v ∷ lists) (suc k) n old new at grown zero list true one other is = absurd (omega (arith, one refl))
number-each (v ∷ lists) (suc k) n old new at grown zero list false one other is = (list, is, sym (append-nil list))
number-each (v ∷ lists) (suc k) n old new at grown (suc j) list b one other is = number-each lists k n old new at grown j list b (λ e. omega (arith, one e)) (λ e same. other e (ap suc same)) is

equal-numbers : (k j : ℕ) → eqb k j ≡ true → k ≡ j
equal-numbers k j e = grind (arith, nat_tests)

other-numbers : (k j : ℕ) → eqb k j ≡ false → k ≡ j → ⊥
other-numbers k j e same = grind (arith, nat_tests)

-- a number is put behind those of its owner
pub number-added : (lists : List (Vec ℕ Global)) (k n : ℕ) (old new : Vec ℕ Global) → slice_get lists k ≡ Some old → new.items ≡ old.items ++ n ∷ [] → IsNumberAdded (map numbers lists) (Some k) n (map numbers (slice_set lists k new))
number-added lists k n old new at grown = record {
  count = length-map (slice_set lists k new) numbers ∙ length-set lists k new ∙ sym (length-map lists numbers);
  each = λ j list is. number-each lists k n old new at grown j list (eqb k j) (equal-numbers k j) (other-numbers k j) is;
}

none-pushed : (lists : List (List ℕ)) → ((k : ℕ) (list : List ℕ) → slice_get lists k ≡ Some list → list ≡ []) → (v : List ℕ) → v ≡ [] → (k : ℕ) (list : List ℕ) → (slice_get lists k ≡ Some list) ⊎ ((k ≡ length lists) × (v ≡ list)) → list ≡ []
none-pushed lists all v none k list (inl at) = all k list at
none-pushed lists all v none k list (inr is) = sym is.1 ∙ none

-- one more empty list
pub none-more : (before now : List (Vec ℕ Global)) (v : Vec ℕ Global) → now ≡ before ++ v ∷ [] → v.items ≡ [] → ((k : ℕ) (list : List ℕ) → slice_get (map numbers before) k ≡ Some list → list ≡ []) →
    (k : ℕ) (list : List ℕ) → slice_get (map numbers now) k ≡ Some list → list ≡ []
none-more before now v grown empty all k list at =
    let e : map numbers now ≡ map numbers before ++ v.items ∷ [] = ap (λ zs. map numbers zs) grown ∙ map-append numbers before (v ∷ []) in
    none-pushed (map numbers before) all v.items empty k list (get-push (map numbers before) v.items k list (subst (λ zs. slice_get zs k ≡ Some list) e at))

-- the first lists
pub no-lists-yet : (parents : List (Option ℕ)) (count : ℕ) (lists : List (List ℕ)) → length lists ≡ count → ((k : ℕ) (list : List ℕ) → slice_get lists k ≡ Some list → list ≡ []) → AreLists (take 0 parents) count lists
no-lists-yet parents count lists many none = record { count_is = many; each = none }
