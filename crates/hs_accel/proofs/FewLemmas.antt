-- A set whose members are counted off.
use Rattle.std.proofs.Common.{◌≡◌, ℕ, zero, suc, ◌+◌, ◌<◌, ◌≤◌, Bool, true, false, ◌||◌, ◌&&◌, List, [], ◌∷◌, cond, eqb, refl, sym, ap, ◌∙◌, inl, inr, arith, eq-eqb}
use Rattle.std.specs.List.{range_with_len, filter}
use Rattle.std.proofs.lemmas.Bool.{cases_eq, ne_eqb}
use Rattle.hs_base.specs.declared.byte_set.ByteSet.{ByteSet}
use Rattle.hs_base.specs.ByteSets.{has, members_from}
use Rattle.memchr.specs.Find.{is_byte, is_byte2, is_byte3}
use Rattle.hs_accel.specs.Sets.{AreAlike}

-- whether a number is in a list
abbrev pub is_in : ℕ → List ℕ → Bool
is_in b [] = false
is_in b (x ∷ xs) = eqb b x || is_in b xs

and-true : (p : Bool) → (p && true) ≡ p
and-true true = refl
and-true false = refl

and-false : (p : Bool) → (p && false) ≡ false
and-false true = refl
and-false false = refl

or-false : (p : Bool) → (p || false) ≡ p
or-false true = refl
or-false false = refl

kept : (p : ℕ → Bool) (b x : ℕ) (xs : List ℕ) (v : Bool) → p x ≡ v → is_in b (filter p xs) ≡ (p b && is_in b xs) → is_in b (cond v (x ∷ filter p xs) (filter p xs)) ≡ (p b && (eqb b x || is_in b xs))
kept p b x xs true q ih =
    elim (cases_eq b x) [
      | inl e ↦ rw (eq-eqb b x e, ap p e ∙ q) refl
      | inr ne ↦ rw (ne_eqb b x ne) ih
    ]
kept p b x xs false q ih =
    elim (cases_eq b x) [
      | inl e ↦ ih ∙ rw (ap p e ∙ q) refl
      | inr ne ↦ rw (ne_eqb b x ne) ih
    ]

is_in-filter : (p : ℕ → Bool) (b : ℕ) (xs : List ℕ) → is_in b (filter p xs) ≡ (p b && is_in b xs)
is_in-filter p b [] = sym (and-false (p b))
is_in-filter p b (x ∷ xs) = kept p b x xs (p x) refl (is_in-filter p b xs)

is_in-range : (b a n : ℕ) → a ≤ b → b < a + n → is_in b (range_with_len a n) ≡ true
is_in-range b a zero low high = absurd (omega arith)
is_in-range b a (suc n) low high =
    elim (cases_eq b a) [
      | inl e ↦ rw (eq-eqb b a e) refl
      | inr ne ↦ rw (ne_eqb b a ne) (is_in-range b (a + 1) n (omega arith) (omega arith))
    ]

is_in-kept : (p : ℕ → Bool) (b n : ℕ) → b < n → p b ≡ is_in b (filter p (range_with_len 0 n))
is_in-kept p b n h = sym (is_in-filter p b (range_with_len 0 n) ∙ rw (is_in-range b 0 n (omega arith) (omega arith)) (and-true (p b)))

-- a byte is a member where it is in the list of the members
pub has-is_in : (s : ByteSet) (xs : List ℕ) → members_from s 0 ≡ xs → AreAlike (has s) (λ b. is_in b xs)
unfolding members_from
has-is_in s xs e b h = is_in-kept (has s) b 256 h ∙ ap (is_in b) e

pub has_one : (s : ByteSet) (x : ℕ) → members_from s 0 ≡ x ∷ [] → AreAlike (has s) (is_byte x)
has_one s x e b h = has-is_in s _ e b h ∙ or-false (eqb b x)

pub has_two : (s : ByteSet) (x y : ℕ) → members_from s 0 ≡ x ∷ y ∷ [] → AreAlike (has s) (is_byte2 x y)
has_two s x y e b h = has-is_in s _ e b h ∙ ap (λ t. eqb b x || t) (or-false (eqb b y))

either_of_three : (p q r : Bool) → (p || (q || (r || false))) ≡ (p || q || r)
either_of_three true q r = refl
either_of_three false true r = refl
either_of_three false false r = or-false r

pub has_three : (s : ByteSet) (x y z : ℕ) → members_from s 0 ≡ x ∷ y ∷ z ∷ [] → AreAlike (has s) (is_byte3 x y z)
has_three s x y z e b h = has-is_in s _ e b h ∙ either_of_three (eqb b x) (eqb b y) (eqb b z)
