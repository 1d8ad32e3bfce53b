-- Patterns have one plan.
use Rattle.std.proofs.Common.{◌≡◌, ℕ, ◌<◌, ◌↔◌, true, List, subst, sym, arith}
use Rattle.hs_base.specs.Lists.{IsMember, OneOf}
use Rattle.hs_base.specs.Patterns.{Pattern, is_single}
use Rattle.hs_base.specs.Settling.{AreRising}
use Rattle.hs_base.specs.Regions.{Plan, IsPlan}
use Rattle.hs_base.proofs.ListLemmas.{IsOrder, rising-unique}

number-order : IsOrder (λ (m n : ℕ). m < n)
number-order = record {
  irreflexive = λ x less. omega arith;
  transitive = λ x y z first second. omega arith;
}

-- rising lists with the same members
same-rising : (xs ys : List ℕ) → AreRising xs → AreRising ys → ((id : ℕ) → IsMember id xs ↔ IsMember id ys) → xs ≡ ys
same-rising xs ys rising rising' both =
    rising-unique (λ m n. m < n) number-order xs ys rising rising' (λ id. (both id).0) (λ id. (both id).1)

module _ (x y : Plan) (same : x.patterns ≡ y.patterns) (is : IsPlan x) (is' : IsPlan y) where
  same-named : (id : ℕ) → IsMember id x.identifiers ↔ IsMember id y.identifiers
  same-named id = (
    λ member. (is'.named id).1 (subst (OneOf (λ p. p.id ≡ id)) same ((is.named id).0 member)),
    λ member. (is.named id).1 (subst (OneOf (λ p. p.id ≡ id)) (sym same) ((is'.named id).0 member)),
  )

  same-single : (id : ℕ) → IsMember id x.singles ↔ IsMember id y.singles
  same-single id = (
    λ member.
        let (named, single) = (is.single id).0 member in
        (is'.single id).1 ((same-named id).0 named, subst (λ P. is_single P id ≡ true) same single),
    λ member.
        let (named, single) = (is'.single id).0 member in
        (is.single id).1 ((same-named id).1 named, subst (λ P. is_single P id ≡ true) (sym same) single),
  )

  pub plans-once : (x.identifiers ≡ y.identifiers) × (x.singles ≡ y.singles)
  plans-once = (
    same-rising x.identifiers y.identifiers is.identifiers is'.identifiers same-named,
    same-rising x.singles y.singles is.singles is'.singles same-single,
  )
