-- Whether one of the numbers below another passes a test.
use Rattle.std.proofs.Common.{◌≡◌, ◌⊎◌, ℕ, zero, suc, ◌<◌, Bool, true, false, refl, sym, subst, ◌∙◌, inl, inr, arith}
use Rattle.std.proofs.lemmas.Bool.{cases_eq}
use Rattle.hs_base.proofs.ContextLemmas.{of_either, left_of_either, right_of_either}
use Rattle.hs_engine.specs.AnyBelow.{any_below}

pub true-or-false : (b : Bool) → (b ≡ true) ⊎ (b ≡ false)
true-or-false true = inl refl
true-or-false false = inr refl

pub true-false : {A : Type 0} (b : Bool) → b ≡ true → b ≡ false → A
true-false b is isnt = absurd (let e : true ≡ false = sym is ∙ isnt in cc)

pub any-some : (n : ℕ) (test : ℕ → Bool) → any_below n test ≡ true → (x : ℕ) × (x < n) × (test x ≡ true)
any-some zero test any = absurd (let e : false ≡ true = any in cc)
any-some (suc n) test any =
    elim (of_either (test n) (any_below n test) any) [
      | inl here ↦ (n, omega arith, here)
      | inr before ↦ let (x, below, is) = any-some n test before in (x, omega arith, is)
    ]

pub some-any : (n : ℕ) (test : ℕ → Bool) (x : ℕ) → x < n → test x ≡ true → any_below n test ≡ true
some-any zero test x below is = absurd (omega arith)
some-any (suc n) test x below is =
    elim (cases_eq x n) [
      | inl same ↦ left_of_either (test n) (any_below n test) (subst (λ z. test z ≡ true) same is)
      | inr apart ↦ right_of_either (test n) (any_below n test) (some-any n test x (omega arith) is)
    ]

pub none-any : (n : ℕ) (f : ℕ → Bool) → any_below n f ≡ false → (x : ℕ) → x < n → f x ≡ false
none-any n f none_ x below =
    elim (true-or-false (f x)) [
      | inl is ↦ true-false (any_below n f) (some-any n f x below is) none_
      | inr isnt ↦ isnt
    ]
