-- The plan of a list with one pattern more.
use Rattle.std.proofs.Common.{◌≡◌, ◌↔◌, ◌==◌, ◌||◌, ◌&&◌, not, ℕ, Bool, true, false, ◌⊎◌, List, [], ◌∷◌, ◌++◌, refl, sym, ap, ◌∙◌, subst, inl, inr}
use Rattle.std.specs.List.{list_all, list_any}
use Rattle.std.proofs.lemmas.Bool.{cases_eq, eq-eqb, ne_eqb, false≢true}
use Rattle.std.proofs.lemmas.List.Folds.{list_all-append, list_any-append}
use Rattle.hs_base.specs.Lists.{Each, IsMember, OneOf}
use Rattle.hs_base.specs.Patterns.{Pattern, is_single}
use Rattle.hs_base.specs.Regions.{IsPlan}
use Rattle.hs_base.specs.Settling.{AreRising}
use Rattle.hs_base.proofs.ListLemmas.{one_of-append, one_of-left, one_of-right}
use Rattle.hs_rose.specs.Plans.{plan_with}

or-same : (a b : Bool) → b ≡ false → (a || (b || false)) ≡ a
or-same true b is = refl
or-same false true is = is
or-same false false is = refl

or-last : (a b : Bool) → b ≡ true → (a || (b || false)) ≡ true
or-last true b is = refl
or-last false true is = refl
or-last false false is = absurd (false≢true is)

and-same : (a b : Bool) → b ≡ true → (a && (b && true)) ≡ a
and-same true true is = refl
and-same true false is = is
and-same false b is = refl

-- whether it is of the identifier, and whether it may be of a single one
module _ (id : ℕ) where
  abbrev pub has : Pattern → Bool
  has x = x.id == id

  abbrev pub may : Pattern → Bool
  may x = not (x.id == id) || x.single

  may-other : (x : Pattern) → has x ≡ false → may x ≡ true
  may-other x is = ap (λ b. not b || x.single) is

  may-own : (x : Pattern) → has x ≡ true → may x ≡ x.single
  may-own x is = ap (λ b. not b || x.single) is

  pub any-one : (P : List Pattern) → OneOf (λ x. x.id ≡ id) P → list_any has P ≡ true
  any-one [] one = absurd one
  any-one (x ∷ P) (inl e) = ap (λ b. b || list_any has P) (eq-eqb x.id id e)
  any-one (x ∷ P) (inr later) = or-second (has x) (list_any has P) (any-one P later)
    where
      or-second : (a b : Bool) → b ≡ true → (a || b) ≡ true
      or-second true b is = refl
      or-second false b is = is

  all-none : (P : List Pattern) → (OneOf (λ x. x.id ≡ id) P → ⊥) → list_all may P ≡ true
  all-none [] none = refl
  all-none (x ∷ P) none =
      ap (λ b. b && list_all may P) (may-other x (ne_eqb x.id id (λ e. none (inl e)))) ∙ all-none P (λ one. none (inr one))

  -- a pattern of another identifier changes nothing
  pub single-other : (P : List Pattern) (x : Pattern) → (x.id ≡ id → ⊥) → is_single (P ++ x ∷ []) id ≡ is_single P id
  single-other P x apart =
      let other : has x ≡ false = ne_eqb x.id id apart in
      ap (λ b. b && list_all may (P ++ x ∷ [])) (list_any-append has P (x ∷ []) ∙ or-same (list_any has P) (has x) other)
      ∙ ap (λ b. list_any has P && b) (list_all-append may P (x ∷ []) ∙ and-same (list_all may P) (may x) (may-other x other))

  both-last : (P : List Pattern) (x : Pattern) → x.id ≡ id → is_single (P ++ x ∷ []) id ≡ (list_all may P && (x.single && true))
  both-last P x e =
      let own : has x ≡ true = eq-eqb x.id id e in
      ap (λ b. b && list_all may (P ++ x ∷ [])) (list_any-append has P (x ∷ []) ∙ or-last (list_any has P) (has x) own)
      ∙ (list_all-append may P (x ∷ []) ∙ ap (λ b. list_all may P && (b && true)) (may-own x own))

  and-true : (b : Bool) → (b && true) ≡ b
  and-true true = refl
  and-true false = refl

  -- the first one of it decides
  pub single-new : (P : List Pattern) (x : Pattern) → (OneOf (λ y. y.id ≡ id) P → ⊥) → x.id ≡ id → is_single (P ++ x ∷ []) id ≡ x.single
  single-new P x none e = both-last P x e ∙ (ap (λ b. b && (x.single && true)) (all-none P none) ∙ and-true x.single)

  -- a further one decides with those before it
  pub single-known : (P : List Pattern) (x : Pattern) → OneOf (λ y. y.id ≡ id) P → x.id ≡ id → is_single (P ++ x ∷ []) id ≡ (is_single P id && x.single)
  single-known P x one e =
      both-last P x e
      ∙ (ap (λ b. list_all may P && b) (and-true x.single) ∙ ap (λ b. (b && list_all may P) && x.single) (sym (any-one P one)))

-- where each pattern of the identifier asks for the same
module _ (id : ℕ) where
  and-second : (a b : Bool) → b ≡ false → (a && b) ≡ false
  and-second true b is = is
  and-second false b is = refl

  all-true : (P : List Pattern) → Each (λ x. x.id ≡ id → x.single ≡ true) P → list_all (may id) P ≡ true
  all-true [] each = refl
  all-true (x ∷ P) each = ap (λ b. b && list_all (may id) P) own ∙ all-true P each.1
    where
      own : may id x ≡ true
      own = elim (cases_eq x.id id) [
        | inl e ↦ may-own id x (eq-eqb x.id id e) ∙ each.0 e
        | inr apart ↦ may-other id x (ne_eqb x.id id apart)
      ]

  all-false : (P : List Pattern) → OneOf (λ x. x.id ≡ id) P → Each (λ x. x.id ≡ id → x.single ≡ false) P → list_all (may id) P ≡ false
  all-false [] one each = absurd one
  all-false (x ∷ P) (inl e) each = ap (λ b. b && list_all (may id) P) (may-own id x (eq-eqb x.id id e) ∙ each.0 e)
  all-false (x ∷ P) (inr later) each = and-second (may id x) (list_all (may id) P) (all-false P later each.1)

  pub all-single : (single : Bool) (P : List Pattern) → OneOf (λ x. x.id ≡ id) P → Each (λ x. x.id ≡ id → x.single ≡ single) P → is_single P id ≡ single
  all-single true P one each = ap (λ b. b && list_all (may id) P) (any-one id P one) ∙ all-true P each
  all-single false P one each = ap (λ b. b && list_all (may id) P) (any-one id P one) ∙ all-false P one each

-- a plan, from what its lists have
pub plan-more : (P : List Pattern) (x : Pattern) (ids singles ids' singles' : List ℕ) → IsPlan (plan_with P ids singles) →
    AreRising ids' → AreRising singles' →
    ((id : ℕ) → IsMember id ids' → (id ≡ x.id) ⊎ IsMember id ids) →
    IsMember x.id ids' →
    ((id : ℕ) → IsMember id ids → IsMember id ids') →
    ((id : ℕ) → IsMember id singles' ↔ (IsMember id ids' × (is_single (P ++ x ∷ []) id ≡ true))) →
    IsPlan (plan_with (P ++ x ∷ []) ids' singles')
plan-more P x ids singles ids' singles' is rising rising' to here_now from single = record {
  identifiers = rising;
  named = λ id. (
    λ member. elim (to id member) [
      | inl e ↦ one_of-right (λ y. y.id ≡ id) P (x ∷ []) (inl (sym e))
      | inr old ↦ one_of-left (λ y. y.id ≡ id) P (x ∷ []) ((is.named id).0 old)
    ],
    λ one. elim (one_of-append (λ y. y.id ≡ id) P (x ∷ []) one) [
      | inl before ↦ from id ((is.named id).1 before)
      | inr last ↦ elim last [ inl e ↦ subst (λ n. IsMember n ids') e here_now | inr none ↦ absurd none ]
    ],
  );
  singles = rising';
  single = single;
}
