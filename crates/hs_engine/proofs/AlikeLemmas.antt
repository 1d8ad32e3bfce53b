-- Contexts that only end assertions tell apart: where no end assertion stands in front of a position, a path over the one
-- is a path over the other.
use Rattle.std.proofs.Common.{◌≡◌, ℕ, zero, suc, ◌+◌, ◌<◌, Bool, true, false, ◌&&◌, List, refl, sym, ◌∙◌, inl, inr, arith}
use Rattle.hs_base.specs.declared.assertion.Assertion.{Assertion}
use Rattle.hs_base.specs.EndAssertions.{is_end_assertion}
use Rattle.hs_base.specs.Contexts.{Context, allows}
use Rattle.hs_base.specs.WrittenOut.{Core, fail, empty, class, assert, cat, alt, plus, count, set_of}
use Rattle.hs_base.proofs.ContextLemmas.{first_of_both, second_of_both, of_both, of_either, left_of_either, right_of_either}
use Rattle.hs_base.proofs.EndAssertionLemmas.{IsClean, IsTail}
use Rattle.hs_engine.specs.Positions.{null, enter, accept, follow, Path, path_enter, path_step}
use Rattle.hs_engine.proofs.PositionLemmas.{Side, lower, upper, side, enter-cat_lower, enter-cat_upper, enter-alt_lower, enter-alt_upper, accept-cat_lower, accept-cat_upper, accept-alt_lower, accept-alt_upper, follow-cat_lower_lower, follow-cat_lower_upper, follow-cat_upper_lower, follow-cat_upper_upper, follow-alt_lower_lower, follow-alt_lower_upper, follow-alt_upper_lower, follow-alt_upper_upper}

-- what is allowed in the first context is allowed in the second, but for end assertions
abbrev pub AreAlike : Context → Context → Type 0
AreAlike c d = (a : Assertion) → is_end_assertion a ≡ false → allows a c ≡ true → allows a d ≡ true

-- a position that is entered is one of the expression

below-enter_cat : (a b : Core) (c : Context) → ((k : ℕ) → enter b k c ≡ true → k < count b) → (y : ℕ) → Side (count a) y → enter (cat a b) y c ≡ true → y < count a + count b
below-enter_cat a b c in_b y (lower _ below) is = omega arith
below-enter_cat a b c in_b y (upper k) is =
    let below : k < count b = in_b k (second_of_both (null a c) (enter b k c) (sym (enter-cat_upper a b c k) ∙ is)) in
    omega arith

below-enter_alt : (a b : Core) (c : Context) → ((k : ℕ) → enter b k c ≡ true → k < count b) → (y : ℕ) → Side (count a) y → enter (alt a b) y c ≡ true → y < count a + count b
below-enter_alt a b c in_b y (lower _ below) is = omega arith
below-enter_alt a b c in_b y (upper k) is =
    let below : k < count b = in_b k (sym (enter-alt_upper a b c k) ∙ is) in
    omega arith

pub enter-below : (r : Core) (y : ℕ) (c : Context) → enter r y c ≡ true → y < count r
enter-below fail y c is = absurd (let e : false ≡ true = is in cc)
enter-below empty y c is = absurd (let e : false ≡ true = is in cc)
enter-below (class set) zero c is = omega arith
enter-below (class set) (suc y) c is = absurd (let e : false ≡ true = is in cc)
enter-below (assert assertion) y c is = absurd (let e : false ≡ true = is in cc)
enter-below (cat a b) y c is = below-enter_cat a b c (λ k. enter-below b k c) y (side (count a) y) is
enter-below (alt a b) y c is = below-enter_alt a b c (λ k. enter-below b k c) y (side (count a) y) is
enter-below (plus a) y c is = enter-below a y c is

module _ (c d : Context) (alike : AreAlike c d) where
  -- without end assertions

  pub null-clean : (r : Core) → IsClean r → null r c ≡ true → null r d ≡ true
  null-clean fail clean is = is
  null-clean empty clean is = refl
  null-clean (class set) clean is = is
  null-clean (assert assertion) clean is = alike assertion clean is
  null-clean (cat a b) clean is =
      of_both (null a d) (null b d) (null-clean a clean.0 (first_of_both (null a c) (null b c) is)) (null-clean b clean.1 (second_of_both (null a c) (null b c) is))
  null-clean (alt a b) clean is =
      elim (of_either (null a c) (null b c) is) [
        | inl left ↦ left_of_either (null a d) (null b d) (null-clean a clean.0 left)
        | inr right ↦ right_of_either (null a d) (null b d) (null-clean b clean.1 right)
      ]
  null-clean (plus a) clean is = null-clean a clean is

  accept_clean-cat : (a b : Core) → IsClean b → ((k : ℕ) → accept a k c ≡ true → accept a k d ≡ true) → ((k : ℕ) → accept b k c ≡ true → accept b k d ≡ true) →
      (x : ℕ) → Side (count a) x → accept (cat a b) x c ≡ true → accept (cat a b) x d ≡ true
  accept_clean-cat a b clean in_a in_b x (lower _ below) is =
      let both : (accept a x c && null b c) ≡ true = sym (accept-cat_lower a b c x below) ∙ is in
      accept-cat_lower a b d x below
      ∙ of_both (accept a x d) (null b d) (in_a x (first_of_both (accept a x c) (null b c) both)) (null-clean b clean (second_of_both (accept a x c) (null b c) both))
  accept_clean-cat a b clean in_a in_b x (upper k) is = accept-cat_upper a b d k ∙ in_b k (sym (accept-cat_upper a b c k) ∙ is)

  accept_clean-alt : (a b : Core) → ((k : ℕ) → accept a k c ≡ true → accept a k d ≡ true) → ((k : ℕ) → accept b k c ≡ true → accept b k d ≡ true) →
      (x : ℕ) → Side (count a) x → accept (alt a b) x c ≡ true → accept (alt a b) x d ≡ true
  accept_clean-alt a b in_a in_b x (lower _ below) is = accept-alt_lower a b d x below ∙ in_a x (sym (accept-alt_lower a b c x below) ∙ is)
  accept_clean-alt a b in_a in_b x (upper k) is = accept-alt_upper a b d k ∙ in_b k (sym (accept-alt_upper a b c k) ∙ is)

  pub accept-clean : (r : Core) (x : ℕ) → IsClean r → accept r x c ≡ true → accept r x d ≡ true
  accept-clean fail x clean is = is
  accept-clean empty x clean is = is
  accept-clean (class set) zero clean is = refl
  accept-clean (class set) (suc x) clean is = is
  accept-clean (assert assertion) x clean is = is
  accept-clean (cat a b) x clean is = accept_clean-cat a b clean.1 (λ k. accept-clean a k clean.0) (λ k. accept-clean b k clean.1) x (side (count a) x) is
  accept-clean (alt a b) x clean is = accept_clean-alt a b (λ k. accept-clean a k clean.0) (λ k. accept-clean b k clean.1) x (side (count a) x) is
  accept-clean (plus a) x clean is = accept-clean a x clean is

  -- without end assertions in front of positions

  enter_tail-cat : (a b : Core) → (0 < count b → IsClean a) → ((k : ℕ) → enter a k c ≡ true → enter a k d ≡ true) → ((k : ℕ) → enter b k c ≡ true → enter b k d ≡ true) →
      (y : ℕ) → Side (count a) y → enter (cat a b) y c ≡ true → enter (cat a b) y d ≡ true
  enter_tail-cat a b clean in_a in_b y (lower _ below) is = enter-cat_lower a b d y below ∙ in_a y (sym (enter-cat_lower a b c y below) ∙ is)
  enter_tail-cat a b clean in_a in_b y (upper k) is =
      let both : (null a c && enter b k c) ≡ true = sym (enter-cat_upper a b c k) ∙ is in
      let enters : enter b k c ≡ true = second_of_both (null a c) (enter b k c) both in
      let below : k < count b = enter-below b k c enters in
      enter-cat_upper a b d k ∙ of_both (null a d) (enter b k d) (null-clean a (clean (omega arith)) (first_of_both (null a c) (enter b k c) both)) (in_b k enters)

  enter_tail-alt : (a b : Core) → ((k : ℕ) → enter a k c ≡ true → enter a k d ≡ true) → ((k : ℕ) → enter b k c ≡ true → enter b k d ≡ true) →
      (y : ℕ) → Side (count a) y → enter (alt a b) y c ≡ true → enter (alt a b) y d ≡ true
  enter_tail-alt a b in_a in_b y (lower _ below) is = enter-alt_lower a b d y below ∙ in_a y (sym (enter-alt_lower a b c y below) ∙ is)
  enter_tail-alt a b in_a in_b y (upper k) is = enter-alt_upper a b d k ∙ in_b k (sym (enter-alt_upper a b c k) ∙ is)

  pub enter-tail : (r : Core) (y : ℕ) → IsTail r → enter r y c ≡ true → enter r y d ≡ true
  enter-tail fail y tail is = is
  enter-tail empty y tail is = is
  enter-tail (class set) zero tail is = refl
  enter-tail (class set) (suc y) tail is = is
  enter-tail (assert assertion) y tail is = is
  enter-tail (cat a b) y tail is = enter_tail-cat a b tail.0 (λ k. enter-tail a k tail.1) (λ k. enter-tail b k tail.2) y (side (count a) y) is
  enter-tail (alt a b) y tail is = enter_tail-alt a b (λ k. enter-tail a k tail.0) (λ k. enter-tail b k tail.1) y (side (count a) y) is
  enter-tail (plus a) y tail is = enter-tail a y tail.1 is

  follow_tail-cat : (a b : Core) → (0 < count b → IsClean a) → IsTail b → ((k l : ℕ) → follow a k l c ≡ true → follow a k l d ≡ true) →
      ((k l : ℕ) → follow b k l c ≡ true → follow b k l d ≡ true) →
      (x y : ℕ) → Side (count a) x → Side (count a) y → follow (cat a b) x y c ≡ true → follow (cat a b) x y d ≡ true
  follow_tail-cat a b clean tail in_a in_b x y (lower _ hx) (lower _ hy) is =
      follow-cat_lower_lower a b d x y hx hy ∙ in_a x y (sym (follow-cat_lower_lower a b c x y hx hy) ∙ is)
  follow_tail-cat a b clean tail in_a in_b x y (lower _ hx) (upper l) is =
      let both : (accept a x c && enter b l c) ≡ true = sym (follow-cat_lower_upper a b c x l hx) ∙ is in
      let enters : enter b l c ≡ true = second_of_both (accept a x c) (enter b l c) both in
      let below : l < count b = enter-below b l c enters in
      follow-cat_lower_upper a b d x l hx
      ∙ of_both (accept a x d) (enter b l d) (accept-clean a x (clean (omega arith)) (first_of_both (accept a x c) (enter b l c) both)) (enter-tail b l tail enters)
  follow_tail-cat a b clean tail in_a in_b x y (upper k) (lower _ hy) is =
      absurd (let e : false ≡ true = sym (follow-cat_upper_lower a b c k y hy) ∙ is in cc)
  follow_tail-cat a b clean tail in_a in_b x y (upper k) (upper l) is =
      follow-cat_upper_upper a b d k l ∙ in_b k l (sym (follow-cat_upper_upper a b c k l) ∙ is)

  follow_tail-alt : (a b : Core) → ((k l : ℕ) → follow a k l c ≡ true → follow a k l d ≡ true) → ((k l : ℕ) → follow b k l c ≡ true → follow b k l d ≡ true) →
      (x y : ℕ) → Side (count a) x → Side (count a) y → follow (alt a b) x y c ≡ true → follow (alt a b) x y d ≡ true
  follow_tail-alt a b in_a in_b x y (lower _ hx) (lower _ hy) is =
      follow-alt_lower_lower a b d x y hx hy ∙ in_a x y (sym (follow-alt_lower_lower a b c x y hx hy) ∙ is)
  follow_tail-alt a b in_a in_b x y (lower _ hx) (upper l) is =
      absurd (let e : false ≡ true = sym (follow-alt_lower_upper a b c x l hx) ∙ is in cc)
  follow_tail-alt a b in_a in_b x y (upper k) (lower _ hy) is =
      absurd (let e : false ≡ true = sym (follow-alt_upper_lower a b c k y hy) ∙ is in cc)
  follow_tail-alt a b in_a in_b x y (upper k) (upper l) is =
      follow-alt_upper_upper a b d k l ∙ in_b k l (sym (follow-alt_upper_upper a b c k l) ∙ is)

  pub follow-tail : (r : Core) (x y : ℕ) → IsTail r → follow r x y c ≡ true → follow r x y d ≡ true
  follow-tail fail x y tail is = is
  follow-tail empty x y tail is = is
  follow-tail (class set) x y tail is = is
  follow-tail (assert assertion) x y tail is = is
  follow-tail (cat a b) x y tail is =
      follow_tail-cat a b tail.0 tail.2 (λ k l. follow-tail a k l tail.1) (λ k l. follow-tail b k l tail.2) x y (side (count a) x) (side (count a) y) is
  follow-tail (alt a b) x y tail is =
      follow_tail-alt a b (λ k l. follow-tail a k l tail.0) (λ k l. follow-tail b k l tail.1) x y (side (count a) x) (side (count a) y) is
  follow-tail (plus a) x y tail is =
      elim (of_either (follow a x y c) (accept a x c && enter a y c) is) [
        | inl within ↦ left_of_either (follow a x y d) (accept a x d && enter a y d) (follow-tail a x y tail.1 within)
        | inr again ↦
            let enters : enter a y c ≡ true = second_of_both (accept a x c) (enter a y c) again in
            let below : y < count a = enter-below a y c enters in
            right_of_either (follow a x y d) (accept a x d && enter a y d)
            (of_both (accept a x d) (enter a y d) (accept-clean a x (tail.0 (omega arith)) (first_of_both (accept a x c) (enter a y c) again)) (enter-tail a y tail.1 enters))
      ]

-- a path over contexts that are alike before its end
pub path-alike : (context context' : ℕ → Context) (Byte Byte' : List Bool → ℕ → Type 0) (r : Core) → IsTail r → (q x p : ℕ) →
    ((i : ℕ) → i < p → AreAlike (context i) (context' i)) → ((i : ℕ) (set : List Bool) → i < p → Byte set i → Byte' set i) →
    Path context Byte r q x p → Path context' Byte' r q x p
path-alike context context' Byte Byte' r tail q x p alike bytes (path_enter y e end is byte) =
    let before : q < e = omega arith in
    path_enter y e end (enter-tail (context q) (context' q) (alike q before) r y tail is) (bytes q (set_of r y) before byte)
path-alike context context' Byte Byte' r tail q x p alike bytes (path_step z y k e end path is byte) =
    let before : k < e = omega arith in
    path_step z y k e end
    (path-alike context context' Byte Byte' r tail q z k (λ i below. alike i (omega arith)) (λ i set below. bytes i set (omega arith)) path)
    (follow-tail (context k) (context' k) (alike k before) r z y tail is) (bytes k (set_of r y) before byte)
