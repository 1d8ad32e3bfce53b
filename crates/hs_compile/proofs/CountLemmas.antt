-- What is counted with one entry more.
use Rattle.std.proofs.Common.{◌≡◌, ◌&&◌, not, ℕ, suc, ◌+◌, ◌-◌, ◌^◌, ◌<◌, ◌≤◌, min, Bool, true, false, List, [], ◌∷◌, ◌++◌, length, refl, sym, ap, ◌∙◌, subst, inl, inr, arith, length-append}
use Rattle.std.proofs.Math.Nat.{min-eq_left}
use Rattle.std.proofs.lemmas.Bool.{cases_eq, false≢true}
use Rattle.hs_base.specs.Lists.{IsMember, OneOf}
use Rattle.hs_base.specs.Patterns.{Pattern, is_single}
use Rattle.hs_base.specs.Regions.{IsPlan}
use Rattle.hs_rose.specs.Plans.{plan_with}
use Rattle.hs_compile.specs.declared.counts.Counts.{Counts}
use Rattle.hs_compile.specs.Counting.{AreNamed}
use Rattle.hs_compile.proofs.PlanLemmas.{plan-more, single-known, single-new, single-other}
use Rattle.hs_compile.proofs.RisingLemmas.{inserted, removed}

-- no pattern
pub named-none : (counts : Counts) → counts.identifiers ≡ 0 → counts.singles ≡ 0 → AreNamed [] counts
named-none counts ids singles = record {
  ids = [];
  single_ids = [];
  is_plan = record {
    identifiers = tt;
    named = λ id. (λ none. absurd none, λ none. absurd none);
    singles = tt;
    single = λ id. (λ none. absurd none, λ (none, _). absurd none);
  };
  identifiers = ids;
  singles = singles;
  few = omega arith;
  fewer = omega arith;
}

-- 1 where it is single
abbrev pub one_if : Bool → ℕ
one_if true = 1
one_if false = 0

longer : (P : List Pattern) (x : Pattern) → length (P ++ x ∷ []) ≡ suc (length P)
longer P x = omega (arith, length-append P (x ∷ []))

-- an identifier more
module _ (P : List Pattern) (x : Pattern) (ids singles : List ℕ) (is : IsPlan (plan_with P ids singles)) (none : OneOf (λ y. y.id ≡ x.id) P → ⊥) where
  no-member : IsMember x.id ids → ⊥
  no-member member = none ((is.named x.id).0 member)

  no-single : IsMember x.id singles → ⊥
  no-single member = no-member (((is.single x.id).0 member).0)

  apart-from : (id : ℕ) → IsMember id ids → x.id ≡ id → ⊥
  apart-from id member e = no-member (subst (λ n. IsMember n ids) (sym e) member)

  old-single : (id : ℕ) → IsMember id singles → IsMember id ids × (is_single (P ++ x ∷ []) id ≡ true)
  old-single id member = let (m, s) = (is.single id).0 member in (m, single-other id P x (apart-from id m) ∙ s)

  old-back : (id : ℕ) → IsMember id ids → is_single (P ++ x ∷ []) id ≡ true → IsMember id singles
  old-back id member s = (is.single id).1 (member, sym (single-other id P x (apart-from id member)) ∙ s)

  own-single : (id : ℕ) → id ≡ x.id → is_single (P ++ x ∷ []) id ≡ x.single
  own-single id e = ap (is_single (P ++ x ∷ [])) e ∙ single-new x.id P x none refl

  new-by : (single : Bool) → x.single ≡ single → (ids' : List ℕ) × (singles' : List ℕ) × IsPlan (plan_with (P ++ x ∷ []) ids' singles') × (length ids' ≡ suc (length ids)) × (length singles' ≡ length singles + one_if single)
  new-by true s =
      let (ids', ins) = inserted x.id ids is.identifiers no-member in
      let (singles', ins') = inserted x.id singles is.singles no-single in (
        ids',
        singles',
        plan-more P x ids singles ids' singles' is ins.rising ins'.rising ins.to ins.here_now ins.from (λ id. (
          λ member. elim (ins'.to id member) [
            | inl e ↦ (subst (λ n. IsMember n ids') (sym e) ins.here_now, own-single id e ∙ s)
            | inr old ↦ let (m, t) = old-single id old in (ins.from id m, t)
          ],
          λ (member, t). elim (ins.to id member) [
            | inl e ↦ subst (λ n. IsMember n singles') (sym e) ins'.here_now
            | inr old ↦ ins'.from id (old-back id old t)
          ],
        )),
        ins.count,
        omega (arith, ins'.count),
      )
  new-by false s =
      let (ids', ins) = inserted x.id ids is.identifiers no-member in (
        ids',
        singles,
        plan-more P x ids singles ids' singles is ins.rising is.singles ins.to ins.here_now ins.from (λ id. (
          λ member. let (m, t) = old-single id member in (ins.from id m, t),
          λ (member, t). elim (ins.to id member) [
            | inl e ↦ absurd (false≢true (sym s ∙ (sym (own-single id e) ∙ t)))
            | inr old ↦ old-back id old t
          ],
        )),
        ins.count,
        omega arith,
      )

pub named-new : (P : List Pattern) (x : Pattern) (old new : Counts) (most : ℕ) → 2 ^ 33 ≤ most → length P < 2 ^ 32 → AreNamed P old → (OneOf (λ y. y.id ≡ x.id) P → ⊥) →
    new.identifiers ≡ min (old.identifiers + 1) most → new.singles ≡ min (old.singles + one_if x.single) most → AreNamed (P ++ x ∷ []) new
named-new P x old new most large few named none ids singles =
    let (ids', singles', plan, more, more') = new-by P x named.ids named.single_ids named.is_plan none x.single refl in
    let small : one_if x.single ≤ 1 = one-small x.single in
    let fits : old.identifiers + 1 ≤ most = omega (arith, named.identifiers, named.few, few, large) in
    let fits' : old.singles + one_if x.single ≤ most = omega (arith, named.singles, named.fewer, few, large, small) in
    record {
      ids = ids';
      single_ids = singles';
      is_plan = plan;
      identifiers = omega (arith, ids ∙ min-eq_left fits, named.identifiers, more);
      singles = omega (arith, singles ∙ min-eq_left fits', named.singles, more');
      few = omega (arith, more, named.few, longer P x);
      fewer = omega (arith, more', named.fewer, longer P x, small);
    }
  where
    one-small : (b : Bool) → one_if b ≤ 1
    one-small true = omega arith
    one-small false = omega arith

-- an entry more of an identifier
module _ (P : List Pattern) (x : Pattern) (ids singles : List ℕ) (is : IsPlan (plan_with P ids singles)) (one : OneOf (λ y. y.id ≡ x.id) P) where
  is-member : IsMember x.id ids
  is-member = (is.named x.id).1 one

  single-now : (id : ℕ) → id ≡ x.id → is_single (P ++ x ∷ []) id ≡ (is_single P x.id && x.single)
  single-now id e = ap (is_single (P ++ x ∷ [])) e ∙ single-known x.id P x one refl

  pub known-same : (is_single P x.id && x.single) ≡ is_single P x.id → IsPlan (plan_with (P ++ x ∷ []) ids singles)
  known-same same =
      plan-more P x ids singles ids singles is is.identifiers is.singles (λ id member. inr member) is-member (λ id member. member)
      (λ id. (
        λ member. let (m, s) = (is.single id).0 member in (m, all-same id ∙ s),
        λ (member, s). (is.single id).1 (member, sym (all-same id) ∙ s),
      ))
    where
      all-same : (id : ℕ) → is_single (P ++ x ∷ []) id ≡ is_single P id
      all-same id = elim (cases_eq id x.id) [
        | inl e ↦ single-now id e ∙ (same ∙ ap (is_single P) (sym e))
        | inr apart ↦ single-other id P x (λ e. apart (sym e))
      ]

  pub known-less : is_single P x.id ≡ true → x.single ≡ false → (singles' : List ℕ) × IsPlan (plan_with (P ++ x ∷ []) ids singles') × (length singles ≡ suc (length singles'))
  known-less was now =
      let (singles', rem) = removed x.id singles is.singles ((is.single x.id).1 (is-member, was)) in (
        singles',
        plan-more P x ids singles ids singles' is is.identifiers rem.rising (λ id member. inr member) is-member (λ id member. member)
            (λ id. (
              λ member. let (m, s) = (is.single id).0 (rem.to id member) in (m, single-other id P x (λ e. rem.apart id member (sym e)) ∙ s),
              λ (member, s).
                  let apart : id ≡ x.id → ⊥ = λ e. false≢true (sym gone ∙ (sym (single-now id e) ∙ s)) in
                  rem.from id apart ((is.single id).1 (member, sym (single-other id P x (λ e. apart (sym e))) ∙ s)),
            )),
        rem.count,
      )
    where
      gone : (is_single P x.id && x.single) ≡ false
      gone = ap (λ b. b && x.single) was ∙ now

known-by : (P : List Pattern) (x : Pattern) (old new : Counts) → AreNamed P old → OneOf (λ y. y.id ≡ x.id) P → (is_single P x.id && x.single) ≡ is_single P x.id →
    new.identifiers ≡ old.identifiers → new.singles ≡ old.singles → AreNamed (P ++ x ∷ []) new
known-by P x old new named one same ids singles = record {
  ids = named.ids;
  single_ids = named.single_ids;
  is_plan = known-same P x named.ids named.single_ids named.is_plan one same;
  identifiers = ids ∙ named.identifiers;
  singles = singles ∙ named.singles;
  few = omega (arith, named.few, longer P x);
  fewer = omega (arith, named.fewer, longer P x);
}

pub named-known : (P : List Pattern) (x : Pattern) (kept : Bool) (old new : Counts) → AreNamed P old → OneOf (λ y. y.id ≡ x.id) P → is_single P x.id ≡ kept → (single : Bool) → x.single ≡ single →
    new.identifiers ≡ old.identifiers → new.singles ≡ old.singles - one_if (kept && not single) → AreNamed (P ++ x ∷ []) new
named-known P x true old new named one was false now ids singles =
    let (singles', plan, less) = known-less P x named.ids named.single_ids named.is_plan one was now in
    record {
      ids = named.ids;
      single_ids = singles';
      is_plan = plan;
      identifiers = ids ∙ named.identifiers;
      singles = omega (arith, singles, named.singles, less);
      few = omega (arith, named.few, longer P x);
      fewer = omega (arith, named.fewer, less, longer P x);
    }
named-known P x true old new named one was true now ids singles = known-by P x old new named one (ap (λ b. b && x.single) was ∙ (now ∙ sym was)) ids (omega (arith, singles))
named-known P x false old new named one was single now ids singles = known-by P x old new named one (ap (λ b. b && x.single) was ∙ sym was) ids (omega (arith, singles))
