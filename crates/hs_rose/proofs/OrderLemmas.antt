-- The literals of a program are in the order of their first roles.
use Rattle.std.proofs.Common.{◌≡◌, ◌⊎◌, ℕ, suc, ◌+◌, ◌<◌, List, [], ◌∷◌, ◌++◌, length, slice_get, Some, sym, ap, subst, ◌∙◌, inl, inr, arith}
use Rattle.std.proofs.lemmas.Bool.{cases_lt}
use Rattle.std.proofs.lemmas.List.{length-append}
use Rattle.std.proofs.lemmas.Option.{same_Some, slice_get_within}
use Rattle.hs_rose.specs.declared.role.Role.{Role}
use Rattle.hs_rose.specs.Naming.{literal_of}
use Rattle.hs_rose.specs.Ordering.{AreInOrder, IsNamedBefore}
use Rattle.hs_rose.proofs.ListLemmas.{get-behind, get-left, get-push}

pub none-in_order : AreInOrder [] 0
none-in_order = record {
  named = λ k below. absurd (omega (arith, below));
  order = λ j k l r at. let e : j < 0 = slice_get_within [] j r at in absurd (omega (arith, e));
}

before-more : (roles : List Role) (r : Role) (j j' l : ℕ) → (j < j') ⊎ (j ≡ j') → IsNamedBefore roles j l → IsNamedBefore (roles ++ r ∷ []) j' l
before-more roles r j j' l less is = record {
  place = is.place;
  before = elim less [ inl below ↦ omega (arith, below, is.before) | inr same ↦ omega (arith, same, is.before) ];
  role = is.role;
  there = get-left roles (r ∷ []) is.place is.role is.there;
  names = is.names;
}

module _ (roles : List Role) (count : ℕ) (are : AreInOrder roles count) (r : Role) where
  longer : length roles < length (roles ++ r ∷ [])
  longer = omega (arith, length-append roles (r ∷ []))

  -- what is asked of one role more: its literal is one of them
  order-by : ((k : ℕ) → literal_of r ≡ Some k → (l : ℕ) → l < k → l < count) → (j k l : ℕ) (s : Role) → slice_get (roles ++ r ∷ []) j ≡ Some s → literal_of s ≡ Some k → l < k → IsNamedBefore (roles ++ r ∷ []) j l
  order-by low j k l s at names below = elim (get-push roles r j s at) [
    | inl there ↦ before-more roles r j j l (inr Rattle.std.proofs.Common.refl) (are.order j k l s there names below)
    | inr last ↦
        before-more roles r (length roles) j l (inr (sym last.0)) (are.named l (low k (subst (λ (q : Role). literal_of q ≡ Some k) (sym last.1) names) l below))
  ]

  -- a role that names one of them, or none
  pub push-same : ((k : ℕ) → literal_of r ≡ Some k → k < count) → AreInOrder (roles ++ r ∷ []) count
  push-same low = record {
    named = λ k below. before-more roles r (length roles) (length (roles ++ r ∷ [])) k (inl longer) (are.named k below);
    order = order-by (λ k names l below. omega (arith, low k names, below));
  }

  -- and one that names the next one
  pub push-next : literal_of r ≡ Some count → AreInOrder (roles ++ r ∷ []) (suc count)
  push-next names = record {
    named = λ k below. elim (cases_lt k count) [
      | inl before ↦ before-more roles r (length roles) (length (roles ++ r ∷ [])) k (inl longer) (are.named k before)
      | inr past ↦
          let same : count ≡ k = omega (arith, below, past) in
          record { place = length roles; before = longer; role = r; there = get-behind roles r; names = names ∙ ap (λ n. Some n) same }
    ];
    order = order-by (λ k is l below. let same : count ≡ k = same_Some count k (sym names ∙ is) in omega (arith, same, below));
  }
