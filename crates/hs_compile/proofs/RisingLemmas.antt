-- A number more, or less, in a list that rises.
use Rattle.std.proofs.Common.{◌≡◌, ℕ, suc, ◌<◌, ◌≤◌, ◌⊎◌, List, [], ◌∷◌, length, refl, sym, ap, subst, inl, inr, arith}
use Rattle.std.proofs.lemmas.Bool.{cases_lt}
use Rattle.hs_base.specs.Lists.{IsMember}
use Rattle.hs_base.specs.Settling.{AreRising}
use Rattle.hs_base.proofs.ListLemmas.{each-member, each-of_members}

pub record IsInserted (n : ℕ) (xs ys : List ℕ) : Type 0 where
  pub rising : AreRising ys
  pub count : length ys ≡ suc (length xs)
  pub to : (id : ℕ) → IsMember id ys → (id ≡ n) ⊎ IsMember id xs
  pub here_now : IsMember n ys
  pub from : (id : ℕ) → IsMember id xs → IsMember id ys

strictly : (x n : ℕ) → x ≤ n → (n ≡ x → ⊥) → x < n
strictly x n above apart = elim (cases_lt x n) [
  | inl less ↦ less
  | inr back ↦ absurd (apart (omega (arith, above, back)))
]

pub inserted : (n : ℕ) (xs : List ℕ) → AreRising xs → (IsMember n xs → ⊥) → (ys : List ℕ) × IsInserted n xs ys
inserted n [] rising new = (n ∷ [], record { rising = (tt, tt); count = refl; to = λ id m. m; here_now = inl refl; from = λ id m. absurd m })
inserted n (x ∷ xs) rising new = elim (cases_lt n x) [
  | inl below ↦ (
    n ∷ x ∷ xs,
    record {
      rising = ((below, each-of_members (λ m. n < m) xs (λ m member. let above : x < m = each-member (λ k. x < k) xs m rising.0 member in omega (arith, below, above))), rising);
      count = refl;
      to = λ id m. m;
      here_now = inl refl;
      from = λ id m. inr m;
    },
  )
  | inr above ↦
      let less : x < n = strictly x n above (λ e. new (inl e)) in
      let (ys, is) = inserted n xs rising.1 (λ m. new (inr m)) in
      (x ∷ ys, behind ys less is)
]
  where
    behind : (ys : List ℕ) → x < n → IsInserted n xs ys → IsInserted n (x ∷ xs) (x ∷ ys)
    behind ys less is = record {
      rising = (
        each-of_members (λ m. x < m) ys (λ m member. elim (is.to m member) [
          | inl e ↦ subst (λ k. x < k) (sym e) less
          | inr old ↦ each-member (λ k. x < k) xs m rising.0 old
        ]),
        is.rising,
      );
      count = ap suc is.count;
      to = λ id member. elim member [
        | inl e ↦ inr (inl e)
        | inr later ↦ elim (is.to id later) [ inl e ↦ inl e | inr old ↦ inr (inr old) ]
      ];
      here_now = inr is.here_now;
      from = λ id member. elim member [ inl e ↦ inl e | inr later ↦ inr (is.from id later) ];
    }

pub record IsRemoved (n : ℕ) (xs ys : List ℕ) : Type 0 where
  pub rising : AreRising ys
  pub count : length xs ≡ suc (length ys)
  pub apart : (id : ℕ) → IsMember id ys → id ≡ n → ⊥
  pub to : (id : ℕ) → IsMember id ys → IsMember id xs
  pub from : (id : ℕ) → (id ≡ n → ⊥) → IsMember id xs → IsMember id ys

pub removed : (n : ℕ) (xs : List ℕ) → AreRising xs → IsMember n xs → (ys : List ℕ) × IsRemoved n xs ys
removed n [] rising member = absurd member
removed n (x ∷ xs) rising (inl same) = (
  xs,
  record {
    rising = rising.1;
    count = refl;
    apart = λ id member e. let above : x < id = each-member (λ k. x < k) xs id rising.0 member in omega (arith, above, e, same);
    to = λ id member. inr member;
    from = λ id apart member. elim member [ inl e ↦ absurd (apart (omega (arith, e, same))) | inr later ↦ later ];
  },
)
removed n (x ∷ xs) rising (inr member) =
    let (ys, is) = removed n xs rising.1 member in
    let less : x < n = each-member (λ k. x < k) xs n rising.0 member in (
      x ∷ ys,
      record {
        rising = (each-of_members (λ m. x < m) ys (λ m there. each-member (λ k. x < k) xs m rising.0 (is.to m there)), is.rising);
        count = ap suc is.count;
        apart = λ id there e. elim there [ inl first ↦ omega (arith, less, e, first) | inr later ↦ is.apart id later e ];
        to = λ id there. elim there [ inl e ↦ inl e | inr later ↦ inr (is.to id later) ];
        from = λ id apart there. elim there [ inl e ↦ inl e | inr later ↦ inr (is.from id apart later) ];
      },
    )
