-- The plan of a list has the identifiers of its program.
use Rattle.std.proofs.Common.{◌≡◌, ◌↔◌, ℕ, zero, suc, ◌<◌, Bool, true, false, not, ◌||◌, ◌&&◌, ◌==◌, List, [], ◌∷◌, Some, slice_get, refl, sym, ap, ◌∙◌, inl, inr}
use Rattle.std.specs.List.{AllZip, list_any, list_all}
use Rattle.std.proofs.lemmas.Bool.{eq-eqb, false≢true}
use Rattle.hs_base.specs.Lists.{Each, IsMember, OneOf}
use Rattle.hs_base.specs.Patterns.{Pattern, is_single}
use Rattle.hs_base.specs.Regions.{IsPlan}
use Rattle.hs_base.specs.Settling.{AreRising}
use Rattle.hs_rose.specs.declared.identifiers.Identifier.{Identifier}
use Rattle.hs_rose.specs.Identifiers.{AreIdentifiersOf, asks_single, ids_of, is_single_of, singles_of, with_single}
use Rattle.hs_rose.specs.Listing.{Asked}
use Rattle.hs_rose.specs.Plans.{AsksFor, plan_of}
use Rattle.hs_rose.specs.Programs.{Tables}

one-asked : (entries : List Asked) (P : List Pattern) → AllZip AsksFor entries P → (id : ℕ) → OneOf (λ asked. asked.id ≡ id) entries → OneOf (λ x. x.id ≡ id) P
one-asked [] P all id one = absurd one
one-asked (a ∷ entries) [] all id one = absurd all
one-asked (a ∷ entries) (x ∷ P) all id (inl here) = inl (sym all.0.id ∙ here)
one-asked (a ∷ entries) (x ∷ P) all id (inr later) = inr (one-asked entries P all.1 id later)

asked-one : (entries : List Asked) (P : List Pattern) → AllZip AsksFor entries P → (id : ℕ) → OneOf (λ x. x.id ≡ id) P → OneOf (λ asked. asked.id ≡ id) entries
asked-one entries [] all id one = absurd one
asked-one [] (x ∷ P) all id one = absurd all
asked-one (a ∷ entries) (x ∷ P) all id (inl here) = inl (all.0.id ∙ here)
asked-one (a ∷ entries) (x ∷ P) all id (inr later) = inr (asked-one entries P all.1 id later)

single-asked : (entries : List Asked) (P : List Pattern) → AllZip AsksFor entries P → (id : ℕ) → is_single_of entries id ≡ list_all (λ x. not (x.id == id) || x.single) P
single-asked [] [] all id = refl
single-asked [] (x ∷ P) all id = absurd all
single-asked (a ∷ entries) [] all id = absurd all
single-asked (a ∷ entries) (x ∷ P) all id =
    ap (λ n. (not (n == id) || asks_single a) && is_single_of entries id) all.0.id
    ∙ (ap (λ s. (not (x.id == id) || s) && is_single_of entries id) all.0.single
    ∙ ap (λ b. (not (x.id == id) || x.single) && b) (single-asked entries P all.1 id))

any-one : (P : List Pattern) (id : ℕ) → OneOf (λ x. x.id ≡ id) P → list_any (λ x. x.id == id) P ≡ true
any-one [] id one = absurd one
any-one (x ∷ P) id (inl here) = rw (eq-eqb x.id id here) refl
any-one (x ∷ P) id (inr later) = or-second (x.id == id) (list_any (λ y. y.id == id) P) (any-one P id later)
  where
    or-second : (a b : Bool) → b ≡ true → (a || b) ≡ true
    or-second true b is = refl
    or-second false b is = is

-- the single ones among identifiers that rise
each-single : (Q : ℕ → Type 0) (s : Bool) (x : Identifier) (xs : List Identifier) → Q x.id.0 → Each Q (ids_of (singles_of xs)) → Each Q (ids_of (with_single s x (singles_of xs)))
each-single Q true x xs here each = (here, each)
each-single Q false x xs here each = each

singles-each : (Q : ℕ → Type 0) (xs : List Identifier) → Each Q (ids_of xs) → Each Q (ids_of (singles_of xs))
singles-each Q [] each = tt
singles-each Q (x ∷ xs) each = each-single Q x.single x xs each.0 (singles-each Q xs each.1)

one-rises : (s : Bool) (x : Identifier) (xs : List Identifier) → Each (λ id. x.id.0 < id) (ids_of (singles_of xs)) → AreRising (ids_of (singles_of xs)) → AreRising (ids_of (with_single s x (singles_of xs)))
one-rises true x xs above rises = (above, rises)
one-rises false x xs above rises = rises

singles-rise : (xs : List Identifier) → AreRising (ids_of xs) → AreRising (ids_of (singles_of xs))
singles-rise [] rises = tt
singles-rise (x ∷ xs) rises = one-rises x.single x xs (singles-each (λ id. x.id.0 < id) xs rises.0) (singles-rise xs rises.1)

one-member : (single : ℕ → Bool) (x : Identifier) (xs : List Identifier) (id : ℕ) → x.single ≡ single x.id.0 → IsMember id (ids_of (singles_of xs)) ↔ (IsMember id (ids_of xs) × (single id ≡ true)) →
    (s : Bool) → x.single ≡ s → IsMember id (ids_of (with_single s x (singles_of xs))) ↔ (IsMember id (ids_of (x ∷ xs)) × (single id ≡ true))
one-member single x xs id own rest true is = (
  λ member. elim member [
    | inl here ↦ (inl here, ap single here ∙ (sym own ∙ is))
    | inr later ↦ let (m, s) = rest.0 later in (inr m, s)
  ],
  λ (member, s). elim member [ inl here ↦ inl here | inr later ↦ inr (rest.1 (later, s)) ],
)
one-member single x xs id own rest false is = (
  λ member. let (m, s) = rest.0 member in (inr m, s),
  λ (member, s). elim member [
    | inl here ↦ absurd (false≢true (sym is ∙ (own ∙ (sym (ap single here) ∙ s))))
    | inr later ↦ rest.1 (later, s)
  ],
)

single-member : (single : ℕ → Bool) (xs : List Identifier) → Each (λ x. x.single ≡ single x.id.0) xs → (id : ℕ) → IsMember id (ids_of (singles_of xs)) ↔ (IsMember id (ids_of xs) × (single id ≡ true))
single-member single [] each id = (λ is. absurd is, λ (is, _). absurd is)
single-member single (x ∷ xs) each id = one-member single x xs id each.0 (single-member single xs each.1 id) x.single refl

each-of_get : {A : Type 0} (Q : A → Type 0) (xs : List A) → ((k : ℕ) (x : A) → slice_get xs k ≡ Some x → Q x) → Each Q xs
each-of_get Q [] all = tt
each-of_get Q (x ∷ xs) all = (all 0 x refl, each-of_get Q xs (λ k y at. all (suc k) y at))

member-at : (xs : List Identifier) (k : ℕ) (x : Identifier) → slice_get xs k ≡ Some x → IsMember x.id.0 (ids_of xs)
member-at [] k x at = absurd (cc)
member-at (y ∷ xs) zero x at = let e : y ≡ x = cc in inl (ap (λ z. z.id.0) (sym e))
member-at (y ∷ xs) (suc k) x at = inr (member-at xs k x at)

module _ (t : Tables) (entries : List Asked) (P : List Pattern) (are : AreIdentifiersOf t.identifiers entries) (asks : AllZip AsksFor entries P) where
  pub single-of : (k : ℕ) (x : Identifier) → slice_get t.identifiers k ≡ Some x → x.single ≡ is_single P x.id.0
  single-of k x at =
      let one = one-asked entries P asks x.id.0 ((are.named x.id.0).0 (member-at t.identifiers k x at)) in
      are.single k x at ∙ (single-asked entries P asks x.id.0 ∙ sym (ap (λ b. b && list_all (λ y. not (y.id == x.id.0) || y.single) P) (any-one P x.id.0 one)))

  all-single : Each (λ x. x.single ≡ is_single P x.id.0) t.identifiers
  all-single = each-of_get (λ x. x.single ≡ is_single P x.id.0) t.identifiers (λ k x at. single-of k x at)

  pub is-plan : IsPlan (plan_of t P)
  is-plan = record {
    identifiers = are.rising;
    named = λ id. (
      λ member. one-asked entries P asks id ((are.named id).0 member),
      λ one. (are.named id).1 (asked-one entries P asks id one),
    );
    singles = singles-rise t.identifiers are.rising;
    single = single-member (is_single P) t.identifiers all-single;
  }
