-- The index of nodes by their parents and keys.
use Rattle.std.proofs.Common.{◌≡◌, ◌⊎◌, ℕ, Bool, true, false, cond, List, [], ◌∷◌, ◌++◌, length, slice_get, Option, Some, None, refl, sym, ap, subst, ◌∙◌, inl, inr, arith}
use Rattle.std.specs.declared.cmp.Ordering.{Ordering}
use Rattle.std.specs.declared.cmp.Ordering.TheVariants.{Less, Equal, Greater}
use Rattle.std.specs.BTreeMap.{BTreeMap, Updates}
use Rattle.std.specs.Option.{option_cmp}
use Rattle.std.specs.Ordering.{nat_cmp, is_eq, ordering_then}
use Rattle.std.proofs.lemmas.Map.Lookups.{CmpEqualImpliesEq, exact_unsigned, exact_pairs}
use Rattle.std.proofs.lemmas.Bool.{false≢true}
use Rattle.std.proofs.lemmas.Bool.Decides.{nat_tests}
use Rattle.std.proofs.lemmas.Option.{slice_get_within}
use Rattle.hs_forest.specs.Growing.{IsIndex, edge_cmp, node_at}
use Rattle.hs_forest.proofs.ListLemmas.{get-left, get-behind, get-push}

exact_option : CmpEqualImpliesEq (option_cmp nat_cmp)
exact_option None None e = refl
exact_option None (Some y) e = absurd (cc)
exact_option (Some x) None e = absurd (cc)
exact_option (Some x) (Some y) e = ap Some (exact_unsigned x y e)

is-equal : (o : Ordering) → is_eq o ≡ true → o ≡ Equal
is-equal Less e = absurd (false≢true e)
is-equal Equal e = refl
is-equal Greater e = absurd (false≢true e)

nat-self : (n : ℕ) → nat_cmp n n ≡ Equal
nat-self n = grind (arith, nat_tests)

option-self : (p : Option ℕ) → option_cmp nat_cmp p p ≡ Equal
option-self None = refl
option-self (Some n) = nat-self n

edge-self : (p : Option ℕ) (x : ℕ) → is_eq (edge_cmp (p, x) (p, x)) ≡ true
edge-self p x = ap (λ o. is_eq (ordering_then o (nat_cmp x x))) (option-self p) ∙ ap is_eq (nat-self x)

edge-same : (p q : Option ℕ) (x y : ℕ) → is_eq (edge_cmp (p, x) (q, y)) ≡ true → (p ≡ q) × (x ≡ y)
edge-same p q x y e =
    let same = exact_pairs (option_cmp nat_cmp) nat_cmp exact_option exact_unsigned (p, x) (q, y) (is-equal (edge_cmp (p, x) (q, y)) e) in
    (ap (λ (u : Option ℕ × ℕ). u.0) same, ap (λ (u : Option ℕ × ℕ). u.1) same)

cond-some : (b : Bool) (n k : ℕ) (old : Option ℕ) → cond b (Some n) old ≡ Some k → ((b ≡ true) × (n ≡ k)) ⊎ (old ≡ Some k)
cond-some true n k old e = inl (refl, cc)
cond-some false n k old e = inr e

cond-old : (b : Bool) (n k : ℕ) (old : Option ℕ) → (b ≡ true → ⊥) → old ≡ Some k → cond b (Some n) old ≡ Some k
cond-old true n k old not e = absurd (not refl)
cond-old false n k old not e = e

cond-new : (b : Bool) (n : ℕ) (old : Option ℕ) → b ≡ true → cond b (Some n) old ≡ Some n
cond-new true n old e = refl
cond-new false n old e = absurd (false≢true e)

module _ (before now : BTreeMap (Option ℕ × ℕ) ℕ) (parents : List (Option ℕ)) (keys : List ℕ) (parent : Option ℕ) (key : ℕ)
    (index : IsIndex before parents keys) (same : length keys ≡ length parents) (new : node_at before parent key ≡ None) (updates : Updates edge_cmp before now (parent, key) (Some (length keys))) where
  found-more : (p : Option ℕ) (x k : ℕ) → ((is_eq (edge_cmp (parent, key) (p, x)) ≡ true) × (length keys ≡ k)) ⊎ (node_at before p x ≡ Some k) →
      (slice_get (parents ++ parent ∷ []) k ≡ Some p) × (slice_get (keys ++ key ∷ []) k ≡ Some x)
  found-more p x k (inl is) =
      let edge = edge-same parent p key x is.0 in
      let last : length parents ≡ k = sym same ∙ is.1 in (
        subst (λ n. slice_get (parents ++ parent ∷ []) n ≡ Some p) last (get-behind parents parent ∙ ap Some edge.0),
        subst (λ n. slice_get (keys ++ key ∷ []) n ≡ Some x) is.1 (get-behind keys key ∙ ap Some edge.1),
      )
  found-more p x k (inr at) =
      let own = (index p x k).0 at in
      (get-left parents (parent ∷ []) k p own.0, get-left keys (key ∷ []) k x own.1)

  find-more : (p : Option ℕ) (x k : ℕ) → (slice_get parents k ≡ Some p) ⊎ ((k ≡ length parents) × (parent ≡ p)) → (slice_get keys k ≡ Some x) ⊎ ((k ≡ length keys) × (key ≡ x)) →
      cond (is_eq (edge_cmp (parent, key) (p, x))) (Some (length keys)) (node_at before p x) ≡ Some k
  find-more p x k (inl at) (inl at') =
      let old : node_at before p x ≡ Some k = (index p x k).1 (at, at') in
      cond-old (is_eq (edge_cmp (parent, key) (p, x))) (length keys) k (node_at before p x)
      (λ e.
      let edge = edge-same parent p key x e in
      let none : node_at before p x ≡ None = subst (λ y. node_at before p y ≡ None) edge.1 (subst (λ (q : Option ℕ). node_at before q key ≡ None) edge.0 new) in
      let both : None ≡ Some k = sym none ∙ old in absurd (cc))
      old
  find-more p x k (inl at) (inr is) = let below = slice_get_within parents k p at in absurd (omega (arith, below, is.0, same))
  find-more p x k (inr is) (inl at) = let below = slice_get_within keys k x at in absurd (omega (arith, below, is.0, same))
  find-more p x k (inr is) (inr is') =
      let self : is_eq (edge_cmp (parent, key) (p, x)) ≡ true = subst (λ y. is_eq (edge_cmp (parent, key) (p, y)) ≡ true) is'.1 (subst (λ (q : Option ℕ). is_eq (edge_cmp (parent, key) (q, key)) ≡ true) is.1 (edge-self parent key)) in
      cond-new (is_eq (edge_cmp (parent, key) (p, x))) (length keys) (node_at before p x) self ∙ ap Some (sym is'.0)

  -- a node that isn't there is put behind the others
  pub index-push : IsIndex now (parents ++ parent ∷ []) (keys ++ key ∷ [])
  index-push p x k = (
    (λ at. found-more p x k (cond-some (is_eq (edge_cmp (parent, key) (p, x))) (length keys) k (node_at before p x) (sym (updates.0 (p, x)) ∙ at))),
    (λ are. updates.0 (p, x) ∙ find-more p x k (get-push parents parent k p are.0) (get-push keys key k x are.1)),
  )
