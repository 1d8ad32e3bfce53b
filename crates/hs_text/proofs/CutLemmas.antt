-- Lists cut at a separator: at most one cut is before the first, and at most one behind the last.
use Rattle.std.proofs.Common.{◌≡◌, ◌≢◌, ℕ, suc, ◌<◌, false, eqb, List, [], ◌∷◌, ◌++◌, length, get_or, Option, None, MatchOption, refl, sym, subst, arith}
use Rattle.std.proofs.lemmas.Bool.{false≢true}
use Rattle.hs_base.specs.Lists.{Each}

-- two pairs of equal parts
pub record AreSame {A B : Type 0} (a a' : A) (b b' : B) : Type 0 where
  pub left : a ≡ a'
  pub right : b ≡ b'

pub each-from_index : (P : ℕ → Type 0) (xs : List ℕ) → ((k : ℕ) → k < length xs → P (get_or xs k 0)) → Each P xs
each-from_index P [] h = tt
each-from_index P (x ∷ xs) h = (h 0 (omega arith), each-from_index P xs (λ k below. h (suc k) (omega arith)))

pub each-weaken : (P Q : ℕ → Type 0) (xs : List ℕ) → ((b : ℕ) → P b → Q b) → Each P xs → Each Q xs
each-weaken P Q [] f p = tt
each-weaken P Q (x ∷ xs) f p = (f x p.0, each-weaken P Q xs f p.1)

-- a list with the separator has it
pub no_separator : (c : ℕ) (xs ys : List ℕ) → Each (λ b. b ≢ c) (xs ++ c ∷ ys) → ⊥
no_separator c [] ys each = each.0 refl
no_separator c (x ∷ xs) ys each = no_separator c xs ys each.1

-- the cut at the first separator is the only one before which none stands
pub cut_once : (c : ℕ) (a b x y : List ℕ) → Each (λ n. n ≢ c) a → Each (λ n. n ≢ c) b → a ++ c ∷ x ≡ b ++ c ∷ y → AreSame a b x y
cut_once c [] [] x y p q e = record { left = refl; right = cc }
cut_once c [] (b ∷ bs) x y p q e = let same : c ≡ b = cc in absurd (q.0 (sym same))
cut_once c (a ∷ as') [] x y p q e = let same : a ≡ c = cc in absurd (p.0 same)
cut_once c (a ∷ as') (b ∷ bs) x y p q e =
    let rest : as' ++ c ∷ x ≡ bs ++ c ∷ y = cc in
    let same : a ≡ b = cc in
    let both = cut_once c as' bs x y p.1 q.1 rest in
    let tails : as' ≡ bs = both.left in
    record { left = cc; right = both.right }

-- the cut at the last separator is the only one behind which none stands
pub cut_last_once : (c : ℕ) (a b x y : List ℕ) → Each (λ n. n ≢ c) x → Each (λ n. n ≢ c) y → a ++ c ∷ x ≡ b ++ c ∷ y → AreSame a b x y
cut_last_once c [] [] x y p q e = record { left = refl; right = cc }
cut_last_once c [] (b ∷ bs) x y p q e =
    let rest : x ≡ bs ++ c ∷ y = cc in
    absurd (no_separator c bs y (subst (λ l. Each (λ n. n ≢ c) l) rest p))
cut_last_once c (a ∷ as') [] x y p q e =
    let rest : as' ++ c ∷ x ≡ y = cc in
    absurd (no_separator c as' x (subst (λ l. Each (λ n. n ≢ c) l) (sym rest) q))
cut_last_once c (a ∷ as') (b ∷ bs) x y p q e =
    let rest : as' ++ c ∷ x ≡ bs ++ c ∷ y = cc in
    let same : a ≡ b = cc in
    let both = cut_last_once c as' bs x y p q rest in
    let tails : as' ≡ bs = both.left in
    record { left = cc; right = both.right }

pub not_nil : (xs : List ℕ) → eqb (length xs) 0 ≡ false → xs ≢ []
not_nil [] h e = false≢true (sym h)
not_nil (x ∷ xs) h e = cc

-- what holds where there is no value
pub when_none : {A : Type 0} (r : Option A) (P : Type 0) (Q : A → Type 0) → r ≡ None → P → MatchOption r P Q
when_none r P Q e p = subst (λ o. MatchOption o P Q) (sym e) p
