-- The numbers of the roles of each literal.
use Rattle.std.proofs.Common.{◌≡◌, ◌⊎◌, ℕ, zero, suc, ◌+◌, ◌<◌, Bool, true, false, cond, List, [], ◌∷◌, ◌++◌, length, map, take, slice_set, slice_get, Some, None, Vec, Global, refl, sym, ap, subst, ◌∙◌, inl, inr, eqb, arith}
use Rattle.std.proofs.lemmas.Bool.Decides.{nat_tests}
use Rattle.std.proofs.lemmas.List.{append-nil, length-map, length-set, length-take-le, map-append}
use Rattle.hs_rose.specs.declared.role.Role.{Role}
use Rattle.hs_rose.specs.Naming.{literal_of}
use Rattle.hs_rose.specs.LiteralRoles.{AreRolesOfLiterals, IsRoleAdded, is_literal_number, role_numbers, roles_with}
use Rattle.hs_rose.proofs.ListLemmas.{get-push, take-get}

put : (b : Bool) (at : ℕ) (xs ys zs : List ℕ) → xs ≡ ys ++ zs → cond b (at ∷ xs) xs ≡ cond b (at ∷ ys) ys ++ zs
put true at xs ys zs same = ap (λ vs. at ∷ vs) same
put false at xs ys zs same = same

first-put : (b : Bool) (at : ℕ) → cond b (at ∷ []) [] ≡ [] ++ cond b (at ∷ []) []
first-put true at = refl
first-put false at = refl

-- one more role
pub roles-push : (k at : ℕ) (roles : List Role) (r : Role) → roles_with k at (roles ++ r ∷ []) ≡ roles_with k at roles ++ cond (is_literal_number k (literal_of r)) ((at + length roles) ∷ []) []
roles-push k at [] r = let none : at ≡ at + 0 = omega arith in first-put (is_literal_number k (literal_of r)) at ∙ ap (λ n. [] ++ cond (is_literal_number k (literal_of r)) (n ∷ []) []) none
roles-push k at (a ∷ roles) r =
    let next : suc at + length roles ≡ at + suc (length roles) = omega arith in
    put (is_literal_number k (literal_of a)) at (roles_with k (suc at) (roles ++ r ∷ [])) (roles_with k (suc at) roles) (cond (is_literal_number k (literal_of r)) ((at + suc (length roles)) ∷ []) [])
    (roles-push k (suc at) roles r ∙ ap (λ n. roles_with k (suc at) roles ++ cond (is_literal_number k (literal_of r)) (n ∷ []) []) next)

-- the lists of the first so many roles and one more
pub lists-step : (roles : List Role) (count n : ℕ) (r : Role) (before now : List (List ℕ)) → n < length roles → slice_get roles n ≡ Some r → AreRolesOfLiterals (take n roles) count before → IsRoleAdded before (literal_of r) n now →
    AreRolesOfLiterals (take (n + 1) roles) count now
lists-step roles count n r before now below at are added =
    let next : suc n ≡ n + 1 = omega arith in
    let len : 0 + length (take n roles) ≡ n = omega (arith, length-take-le n roles (omega arith)) in
    let more : take n roles ++ r ∷ [] ≡ take (n + 1) roles = sym (take-get roles n r at) ∙ ap (λ i. take i roles) next in record {
      count_is = added.count ∙ are.count_is;
      each = λ k list is.
          let own = added.each k list is in
          own.2 ∙ ap (λ xs. xs ++ cond (is_literal_number k (literal_of r)) (n ∷ []) []) (are.each k own.0 own.1)
          ∙ ap (λ i. roles_with k 0 (take n roles) ++ cond (is_literal_number k (literal_of r)) (i ∷ []) []) (sym len)
          ∙ sym (roles-push k 0 (take n roles) r) ∙ ap (λ rs. roles_with k 0 rs) more;
    }

-- nothing is added where there is no literal
pub none-added : (lists : List (List ℕ)) (n : ℕ) → IsRoleAdded lists None n lists
none-added lists n = record { count = refl; each = λ k list at. (list, at, sym (append-nil list)) }

role-each : (lists : List (Vec ℕ Global)) (k n : ℕ) (old new : Vec ℕ Global) → slice_get lists k ≡ Some old → new.items ≡ old.items ++ n ∷ [] → (j : ℕ) (list : List ℕ) (b : Bool) → (b ≡ true → k ≡ j) → (b ≡ false → k ≡ j → ⊥) →
    slice_get (map role_numbers (slice_set lists k new)) j ≡ Some list → (own : List ℕ) × (slice_get (map role_numbers lists) j ≡ Some own) × (list ≡ own ++ cond b (n ∷ []) [])
role-each [] k n old new at grown j list b one other is = absurd (cc)
role-each (v ∷ lists) zero n old new at grown zero list true one other is = let e : v ≡ old = cc in let e' : new.items ≡ list = cc in (v.items, refl, sym e' ∙ grown ∙ ap (λ (w : Vec ℕ Global). w.items ++ n ∷ []) (sym e))
role-each (v ∷ lists) zero n old new at grown zero list false one other is = absurd (other refl refl)
role-each (v ∷ lists) zero n old new at grown (suc j) list true one other is = absurd (omega (arith, one refl))
role-each (v ∷ lists) zero n old new at grown (suc j) list false one other is = (list, is, sym (append-nil list))
role-each (v ∷ lists) (suc k) n old new at grown zero list true one other is = absurd (omega (arith, one refl))
role-each (v ∷ lists) (suc k) n old new at grown zero list false one other is = (list, is, sym (append-nil list))
role-each (v ∷ lists) (suc k) n old new at grown (suc j) list b one other is = role-each lists k n old new at grown j list b (λ e. omega (arith, one e)) (λ e same. other e (ap suc same)) is

equal-numbers : (k j : ℕ) → eqb k j ≡ true → k ≡ j
equal-numbers k j e = grind (arith, nat_tests)

other-numbers : (k j : ℕ) → eqb k j ≡ false → k ≡ j → ⊥
other-numbers k j e same = grind (arith, nat_tests)

-- one role is put behind those of its literal
pub role-added : (lists : List (Vec ℕ Global)) (k n : ℕ) (old new : Vec ℕ Global) → slice_get lists k ≡ Some old → new.items ≡ old.items ++ n ∷ [] → IsRoleAdded (map role_numbers lists) (Some k) n (map role_numbers (slice_set lists k new))
role-added lists k n old new at grown = record {
  count = length-map (slice_set lists k new) role_numbers ∙ length-set lists k new ∙ sym (length-map lists role_numbers);
  each = λ j list is. role-each lists k n old new at grown j list (eqb k j) (equal-numbers k j) (other-numbers k j) is;
}

-- one more empty list
none-pushed : (lists : List (List ℕ)) → ((k : ℕ) (list : List ℕ) → slice_get lists k ≡ Some list → list ≡ []) → (v : List ℕ) → v ≡ [] → (k : ℕ) (list : List ℕ) → (slice_get lists k ≡ Some list) ⊎ ((k ≡ length lists) × (v ≡ list)) → list ≡ []
none-pushed lists all v none k list (inl at) = all k list at
none-pushed lists all v none k list (inr is) = sym is.1 ∙ none

pub none-more : (before now : List (Vec ℕ Global)) (v : Vec ℕ Global) → now ≡ before ++ v ∷ [] → v.items ≡ [] → ((k : ℕ) (list : List ℕ) → slice_get (map role_numbers before) k ≡ Some list → list ≡ []) →
    (k : ℕ) (list : List ℕ) → slice_get (map role_numbers now) k ≡ Some list → list ≡ []
none-more before now v grown empty all k list at =
    let e : map role_numbers now ≡ map role_numbers before ++ v.items ∷ [] = ap (λ zs. map role_numbers zs) grown ∙ map-append role_numbers before (v ∷ []) in
    none-pushed (map role_numbers before) all v.items empty k list (get-push (map role_numbers before) v.items k list (subst (λ zs. slice_get zs k ≡ Some list) e at))
