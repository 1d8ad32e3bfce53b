-- The position automaton agrees with the spans: a span is empty where the expression is null, or ends behind a position
-- that is reached and accepts; a position is reached where it is entered, or follows one that is reached.
use Rattle.std.proofs.Common.{◌≡◌, ℕ, zero, suc, ◌+◌, ◌-◌, ◌<◌, ◌≤◌, Bool, true, false, ◌&&◌, List, nat_lt, refl, sym, ap, subst, ◌∙◌, inl, inr, arith}
use Rattle.std.proofs.lemmas.Bool.{cases_lt, lt-ltb, le-ltb, cond-true, cond-false}
use Rattle.hs_base.specs.Contexts.{Context, allows}
use Rattle.hs_base.specs.WrittenOut.{Core, fail, empty, class, assert, cat, alt, plus, star, count, pick, set_of, front, Rounds, no_round, round, CoreSpans}
use Rattle.hs_base.proofs.ContextLemmas.{first_of_both, second_of_both, of_both, of_either, left_of_either, right_of_either}
use Rattle.hs_engine.specs.Positions.{null, enter, accept, follow, Path, path_enter, path_step}

pub pick-lower : {A : Type 0} (n : ℕ) (f g : ℕ → A) (x : ℕ) → x < n → pick n f g x ≡ f x
unfolding pick
pick-lower n f g x below = cond-true (nat_lt x n) (f x) (g (x - n)) (lt-ltb x n below)

pub pick-upper : {A : Type 0} (n : ℕ) (f g : ℕ → A) (y : ℕ) → pick n f g (n + y) ≡ g y
unfolding pick
pick-upper n f g y =
    let above : n ≤ n + y = omega arith in
    let back : n + y - n ≡ y = omega arith in
    cond-false (nat_lt (n + y) n) (f (n + y)) (g (n + y - n)) (le-ltb (n + y) n above) ∙ ap g back

-- a position belongs to the first part, of n positions, or to the second
pub data Side (n : ℕ) : ℕ → Type 0 where
  lower : (x : ℕ) → x < n → Side n x
  upper : (y : ℕ) → Side n (n + y)

pub side : (n x : ℕ) → Side n x
side n x =
    elim (cases_lt x n) [
      | inl below ↦ lower x below
      | inr above ↦ let e : n + (x - n) ≡ x = omega arith in subst (Side n) e (upper (x - n))
    ]

-- what the tables say of a position of either part

module _ (a b : Core) where
  pub set-cat_lower : (x : ℕ) → x < count a → set_of (cat a b) x ≡ set_of a x
  set-cat_lower x below = pick-lower (count a) (set_of a) (set_of b) x below

  pub set-cat_upper : (y : ℕ) → set_of (cat a b) (count a + y) ≡ set_of b y
  set-cat_upper y = pick-upper (count a) (set_of a) (set_of b) y

  pub set-alt_lower : (x : ℕ) → x < count a → set_of (alt a b) x ≡ set_of a x
  set-alt_lower x below = pick-lower (count a) (set_of a) (set_of b) x below

  pub set-alt_upper : (y : ℕ) → set_of (alt a b) (count a + y) ≡ set_of b y
  set-alt_upper y = pick-upper (count a) (set_of a) (set_of b) y

  pub front-cat_lower : (x : ℕ) → x < count a → front (cat a b) x ≡ front a x
  front-cat_lower x below = pick-lower (count a) (front a) (λ y. cat a (front b y)) x below

  pub front-cat_upper : (y : ℕ) → front (cat a b) (count a + y) ≡ cat a (front b y)
  front-cat_upper y = pick-upper (count a) (front a) (λ y. cat a (front b y)) y

  pub front-alt_lower : (x : ℕ) → x < count a → front (alt a b) x ≡ front a x
  front-alt_lower x below = pick-lower (count a) (front a) (front b) x below

  pub front-alt_upper : (y : ℕ) → front (alt a b) (count a + y) ≡ front b y
  front-alt_upper y = pick-upper (count a) (front a) (front b) y

  module _ (c : Context) where
    pub enter-cat_lower : (x : ℕ) → x < count a → enter (cat a b) x c ≡ enter a x c
    enter-cat_lower x below = pick-lower (count a) (λ y. enter a y c) (λ y. null a c && enter b y c) x below

    pub enter-cat_upper : (y : ℕ) → enter (cat a b) (count a + y) c ≡ (null a c && enter b y c)
    enter-cat_upper y = pick-upper (count a) (λ y. enter a y c) (λ y. null a c && enter b y c) y

    pub enter-alt_lower : (x : ℕ) → x < count a → enter (alt a b) x c ≡ enter a x c
    enter-alt_lower x below = pick-lower (count a) (λ y. enter a y c) (λ y. enter b y c) x below

    pub enter-alt_upper : (y : ℕ) → enter (alt a b) (count a + y) c ≡ enter b y c
    enter-alt_upper y = pick-upper (count a) (λ y. enter a y c) (λ y. enter b y c) y

    pub accept-cat_lower : (x : ℕ) → x < count a → accept (cat a b) x c ≡ (accept a x c && null b c)
    accept-cat_lower x below = pick-lower (count a) (λ y. accept a y c && null b c) (λ y. accept b y c) x below

    pub accept-cat_upper : (y : ℕ) → accept (cat a b) (count a + y) c ≡ accept b y c
    accept-cat_upper y = pick-upper (count a) (λ y. accept a y c && null b c) (λ y. accept b y c) y

    pub accept-alt_lower : (x : ℕ) → x < count a → accept (alt a b) x c ≡ accept a x c
    accept-alt_lower x below = pick-lower (count a) (λ y. accept a y c) (λ y. accept b y c) x below

    pub accept-alt_upper : (y : ℕ) → accept (alt a b) (count a + y) c ≡ accept b y c
    accept-alt_upper y = pick-upper (count a) (λ y. accept a y c) (λ y. accept b y c) y

    pub follow-cat_lower_lower : (x y : ℕ) → x < count a → y < count a → follow (cat a b) x y c ≡ follow a x y c
    follow-cat_lower_lower x y hx hy =
        pick-lower (count a) (λ k. pick (count a) (λ l. follow a k l c) (λ l. accept a k c && enter b l c) y) (λ k. pick (count a) (λ l. false) (λ l. follow b k l c) y) x hx
        ∙ pick-lower (count a) (λ l. follow a x l c) (λ l. accept a x c && enter b l c) y hy

    pub follow-cat_lower_upper : (x y : ℕ) → x < count a → follow (cat a b) x (count a + y) c ≡ (accept a x c && enter b y c)
    follow-cat_lower_upper x y hx =
        pick-lower (count a) (λ k. pick (count a) (λ l. follow a k l c) (λ l. accept a k c && enter b l c) (count a + y)) (λ k. pick (count a) (λ l. false) (λ l. follow b k l c) (count a + y)) x hx
        ∙ pick-upper (count a) (λ l. follow a x l c) (λ l. accept a x c && enter b l c) y

    pub follow-cat_upper_lower : (x y : ℕ) → y < count a → follow (cat a b) (count a + x) y c ≡ false
    follow-cat_upper_lower x y hy =
        pick-upper (count a) (λ k. pick (count a) (λ l. follow a k l c) (λ l. accept a k c && enter b l c) y) (λ k. pick (count a) (λ l. false) (λ l. follow b k l c) y) x
        ∙ pick-lower (count a) (λ l. false) (λ l. follow b x l c) y hy

    pub follow-cat_upper_upper : (x y : ℕ) → follow (cat a b) (count a + x) (count a + y) c ≡ follow b x y c
    follow-cat_upper_upper x y =
        pick-upper (count a) (λ k. pick (count a) (λ l. follow a k l c) (λ l. accept a k c && enter b l c) (count a + y)) (λ k. pick (count a) (λ l. false) (λ l. follow b k l c) (count a + y)) x
        ∙ pick-upper (count a) (λ l. false) (λ l. follow b x l c) y

    pub follow-alt_lower_lower : (x y : ℕ) → x < count a → y < count a → follow (alt a b) x y c ≡ follow a x y c
    follow-alt_lower_lower x y hx hy =
        pick-lower (count a) (λ k. pick (count a) (λ l. follow a k l c) (λ l. false) y) (λ k. pick (count a) (λ l. false) (λ l. follow b k l c) y) x hx
        ∙ pick-lower (count a) (λ l. follow a x l c) (λ l. false) y hy

    pub follow-alt_lower_upper : (x y : ℕ) → x < count a → follow (alt a b) x (count a + y) c ≡ false
    follow-alt_lower_upper x y hx =
        pick-lower (count a) (λ k. pick (count a) (λ l. follow a k l c) (λ l. false) (count a + y)) (λ k. pick (count a) (λ l. false) (λ l. follow b k l c) (count a + y)) x hx
        ∙ pick-upper (count a) (λ l. follow a x l c) (λ l. false) y

    pub follow-alt_upper_lower : (x y : ℕ) → y < count a → follow (alt a b) (count a + x) y c ≡ false
    follow-alt_upper_lower x y hy =
        pick-upper (count a) (λ k. pick (count a) (λ l. follow a k l c) (λ l. false) y) (λ k. pick (count a) (λ l. false) (λ l. follow b k l c) y) x
        ∙ pick-lower (count a) (λ l. false) (λ l. follow b x l c) y hy

    pub follow-alt_upper_upper : (x y : ℕ) → follow (alt a b) (count a + x) (count a + y) c ≡ follow b x y c
    follow-alt_upper_upper x y =
        pick-upper (count a) (λ k. pick (count a) (λ l. follow a k l c) (λ l. false) (count a + y)) (λ k. pick (count a) (λ l. false) (λ l. follow b k l c) (count a + y)) x
        ∙ pick-upper (count a) (λ l. false) (λ l. follow b x l c) y

module _ (context : ℕ → Context) (Byte : List Bool → ℕ → Type 0) where
  -- the position is reached at p from q
  abbrev pub Reach : Core → ℕ → ℕ → ℕ → Type 0
  Reach r x q p = CoreSpans context Byte (front r x) q p

  -- a span is empty, or ends behind a position
  pub data Ends (r : Core) (q p : ℕ) : Type 0 where
    ends_empty : q ≡ p → null r (context p) ≡ true → Ends r q p
    ends_at : (x : ℕ) → Reach r x q p → accept r x (context p) ≡ true → Ends r q p

  -- the position is entered at p, or follows there
  pub data From (r : Core) (y q p : ℕ) : Type 0 where
    entered : q ≡ p → enter r y (context p) ≡ true → From r y q p
    followed : (x : ℕ) → Reach r x q p → follow r x y (context p) ≡ true → From r y q p

  -- and its byte leads to e
  pub data Arrives (r : Core) (y q e : ℕ) : Type 0 where
    arrives : (p : ℕ) → e ≡ p + 1 → Byte (set_of r y) p → From r y q p → Arrives r y q e

  -- what is reached in a part is reached in the whole, and back

  cat-lower : (a b : Core) (x q p : ℕ) → x < count a → Reach a x q p → Reach (cat a b) x q p
  cat-lower a b x q p below reach = subst (λ r. CoreSpans context Byte r q p) (sym (front-cat_lower a b x below)) reach

  lower-cat : (a b : Core) (x q p : ℕ) → x < count a → Reach (cat a b) x q p → Reach a x q p
  lower-cat a b x q p below reach = subst (λ r. CoreSpans context Byte r q p) (front-cat_lower a b x below) reach

  cat-upper : (a b : Core) (y q m p : ℕ) → CoreSpans context Byte a q m → Reach b y m p → Reach (cat a b) (count a + y) q p
  cat-upper a b y q m p first reach = subst (λ r. CoreSpans context Byte r q p) (sym (front-cat_upper a b y)) (m, first, reach)

  upper-cat : (a b : Core) (y q p : ℕ) → Reach (cat a b) (count a + y) q p → (m : ℕ) × CoreSpans context Byte a q m × Reach b y m p
  upper-cat a b y q p reach = subst (λ r. CoreSpans context Byte r q p) (front-cat_upper a b y) reach

  alt-lower : (a b : Core) (x q p : ℕ) → x < count a → Reach a x q p → Reach (alt a b) x q p
  alt-lower a b x q p below reach = subst (λ r. CoreSpans context Byte r q p) (sym (front-alt_lower a b x below)) reach

  lower-alt : (a b : Core) (x q p : ℕ) → x < count a → Reach (alt a b) x q p → Reach a x q p
  lower-alt a b x q p below reach = subst (λ r. CoreSpans context Byte r q p) (front-alt_lower a b x below) reach

  alt-upper : (a b : Core) (y q p : ℕ) → Reach b y q p → Reach (alt a b) (count a + y) q p
  alt-upper a b y q p reach = subst (λ r. CoreSpans context Byte r q p) (sym (front-alt_upper a b y)) reach

  upper-alt : (a b : Core) (y q p : ℕ) → Reach (alt a b) (count a + y) q p → Reach b y q p
  upper-alt a b y q p reach = subst (λ r. CoreSpans context Byte r q p) (front-alt_upper a b y) reach

  rounds-star : (a : Core) (q m : ℕ) → Rounds (CoreSpans context Byte a) q m → CoreSpans context Byte (star a) q m
  rounds-star a q m no_round = inr refl
  rounds-star a q m (round l k before last) = inl (l, before, last)

  star-rounds : (a : Core) (q m : ℕ) → CoreSpans context Byte (star a) q m → Rounds (CoreSpans context Byte a) q m
  star-rounds a q m (inl (l, before, last)) = round l m before last
  star-rounds a q m (inr same) = subst (Rounds (CoreSpans context Byte a) q) same no_round

  -- a position that is reached is one of the expression

  below-cat : (a b : Core) (q p : ℕ) → ((x m : ℕ) → Reach b x m p → x < count b) → (x : ℕ) → Side (count a) x → Reach (cat a b) x q p → x < count a + count b
  below-cat a b q p in_b x (lower _ below) reach = omega arith
  below-cat a b q p in_b x (upper y) reach =
      let (m, first, rest) = upper-cat a b y q p reach in
      let below : y < count b = in_b y m rest in
      omega arith

  below-alt : (a b : Core) (q p : ℕ) → ((x m : ℕ) → Reach b x m p → x < count b) → (x : ℕ) → Side (count a) x → Reach (alt a b) x q p → x < count a + count b
  below-alt a b q p in_b x (lower _ below) reach = omega arith
  below-alt a b q p in_b x (upper y) reach =
      let below : y < count b = in_b y q (upper-alt a b y q p reach) in
      omega arith

  pub reach-below : (r : Core) (x q p : ℕ) → Reach r x q p → x < count r
  reach-below fail x q p reach = absurd reach
  reach-below empty x q p reach = absurd reach
  reach-below (class set) zero q p reach = omega arith
  reach-below (class set) (suc x) q p reach = absurd reach
  reach-below (assert assertion) x q p reach = absurd reach
  reach-below (cat a b) x q p reach = below-cat a b q p (λ k m. reach-below b k m p) x (side (count a) x) reach
  reach-below (alt a b) x q p reach = below-alt a b q p (λ k m. reach-below b k m p) x (side (count a) x) reach
  reach-below (plus a) x q p (m, rounds, reach) = reach-below a x m p reach

  -- where it is null, it has an empty span
  pub null-span : (r : Core) (p : ℕ) → null r (context p) ≡ true → CoreSpans context Byte r p p
  null-span fail p is = absurd (let e : false ≡ true = is in cc)
  null-span empty p is = refl
  null-span (class set) p is = absurd (let e : false ≡ true = is in cc)
  null-span (assert assertion) p is = (refl, is)
  null-span (cat a b) p is =
      (p, null-span a p (first_of_both (null a (context p)) (null b (context p)) is), null-span b p (second_of_both (null a (context p)) (null b (context p)) is))
  null-span (alt a b) p is =
      elim (of_either (null a (context p)) (null b (context p)) is) [ inl left ↦ inl (null-span a p left) | inr right ↦ inr (null-span b p right) ]
  null-span (plus a) p is = (p, no_round, null-span a p is)

  -- behind a position that is reached and accepts, it has a span

  accept_span-cat : (a b : Core) (q p : ℕ) → ((x : ℕ) → Reach a x q p → accept a x (context p) ≡ true → CoreSpans context Byte a q p) →
      ((x m : ℕ) → Reach b x m p → accept b x (context p) ≡ true → CoreSpans context Byte b m p) →
      (x : ℕ) → Side (count a) x → Reach (cat a b) x q p → accept (cat a b) x (context p) ≡ true → CoreSpans context Byte (cat a b) q p
  accept_span-cat a b q p in_a in_b x (lower _ below) reach is =
      let both : (accept a x (context p) && null b (context p)) ≡ true = sym (accept-cat_lower a b (context p) x below) ∙ is in (
        p,
        in_a x (lower-cat a b x q p below reach) (first_of_both (accept a x (context p)) (null b (context p)) both),
        null-span b p (second_of_both (accept a x (context p)) (null b (context p)) both),
      )
  accept_span-cat a b q p in_a in_b x (upper y) reach is =
      let (m, first, rest) = upper-cat a b y q p reach in
      (m, first, in_b y m rest (sym (accept-cat_upper a b (context p) y) ∙ is))

  accept_span-alt : (a b : Core) (q p : ℕ) → ((x : ℕ) → Reach a x q p → accept a x (context p) ≡ true → CoreSpans context Byte a q p) →
      ((x : ℕ) → Reach b x q p → accept b x (context p) ≡ true → CoreSpans context Byte b q p) →
      (x : ℕ) → Side (count a) x → Reach (alt a b) x q p → accept (alt a b) x (context p) ≡ true → CoreSpans context Byte (alt a b) q p
  accept_span-alt a b q p in_a in_b x (lower _ below) reach is =
      inl (in_a x (lower-alt a b x q p below reach) (sym (accept-alt_lower a b (context p) x below) ∙ is))
  accept_span-alt a b q p in_a in_b x (upper y) reach is =
      inr (in_b y (upper-alt a b y q p reach) (sym (accept-alt_upper a b (context p) y) ∙ is))

  pub accept-span : (r : Core) (x q p : ℕ) → Reach r x q p → accept r x (context p) ≡ true → CoreSpans context Byte r q p
  accept-span fail x q p reach is = reach
  accept-span empty x q p reach is = absurd reach
  accept-span (class set) zero q p reach is = reach
  accept-span (class set) (suc x) q p reach is = absurd reach
  accept-span (assert assertion) x q p reach is = absurd reach
  accept-span (cat a b) x q p reach is =
      accept_span-cat a b q p (λ k. accept-span a k q p) (λ k m. accept-span b k m p) x (side (count a) x) reach is
  accept-span (alt a b) x q p reach is =
      accept_span-alt a b q p (λ k. accept-span a k q p) (λ k. accept-span b k q p) x (side (count a) x) reach is
  accept-span (plus a) x q p (m, rounds, reach) is = (m, star-rounds a q m rounds, accept-span a x m p reach is)

  pub ends-spans : (r : Core) (q p : ℕ) → Ends r q p → CoreSpans context Byte r q p
  ends-spans r q p (ends_empty same is) = subst (λ k. CoreSpans context Byte r k p) (sym same) (null-span r p is)
  ends-spans r q p (ends_at x reach is) = accept-span r x q p reach is

  -- each span is empty, or ends behind a position that is reached and accepts

  ends-cat : (a b : Core) (q m p : ℕ) → CoreSpans context Byte a q m → Ends a q m → Ends b m p → Ends (cat a b) q p
  ends-cat a b q m p first (ends_empty same is) (ends_empty same' is') =
      let is_at_p : null a (context p) ≡ true = subst (λ k. null a (context k) ≡ true) same' is in
      ends_empty (same ∙ same') (of_both (null a (context p)) (null b (context p)) is_at_p is')
  ends-cat a b q m p first (ends_at x reach is) (ends_empty same' is') =
      let at_p : Reach a x q p = subst (λ k. Reach a x q k) same' reach in
      let is_at_p : accept a x (context p) ≡ true = subst (λ k. accept a x (context k) ≡ true) same' is in
      let below : x < count a = reach-below a x q p at_p in
      ends_at x (cat-lower a b x q p below at_p) (accept-cat_lower a b (context p) x below ∙ of_both (accept a x (context p)) (null b (context p)) is_at_p is')
  ends-cat a b q m p first ends (ends_at y reach is) =
      ends_at (count a + y) (cat-upper a b y q m p first reach) (accept-cat_upper a b (context p) y ∙ is)

  ends-left : (a b : Core) (q p : ℕ) → Ends a q p → Ends (alt a b) q p
  ends-left a b q p (ends_empty same is) = ends_empty same (left_of_either (null a (context p)) (null b (context p)) is)
  ends-left a b q p (ends_at x reach is) =
      let below : x < count a = reach-below a x q p reach in
      ends_at x (alt-lower a b x q p below reach) (accept-alt_lower a b (context p) x below ∙ is)

  ends-right : (a b : Core) (q p : ℕ) → Ends b q p → Ends (alt a b) q p
  ends-right a b q p (ends_empty same is) = ends_empty same (right_of_either (null a (context p)) (null b (context p)) is)
  ends-right a b q p (ends_at y reach is) = ends_at (count a + y) (alt-upper a b y q p reach) (accept-alt_upper a b (context p) y ∙ is)

  -- an empty last round is dropped
  ends-plus : (a : Core) (q p : ℕ) → ((m : ℕ) → CoreSpans context Byte a m p → Ends a m p) →
      (m : ℕ) → Rounds (CoreSpans context Byte a) q m → Ends a m p → Ends (plus a) q p
  ends-plus a q p split m no_round (ends_empty same is) = ends_empty same is
  ends-plus a q p split m (round l k before last) (ends_empty same is) =
      ends-plus a q p split l before (split l (subst (CoreSpans context Byte a l) same last))
  ends-plus a q p split m rounds (ends_at x reach is) = ends_at x (m, rounds-star a q m rounds, reach) is

  pub spans-ends : (r : Core) (q p : ℕ) → CoreSpans context Byte r q p → Ends r q p
  spans-ends fail q p span = absurd span
  spans-ends empty q p span = ends_empty span refl
  spans-ends (class set) q p span = ends_at zero span refl
  spans-ends (assert assertion) q p (same, is) = ends_empty same (subst (λ k. allows assertion (context k) ≡ true) same is)
  spans-ends (cat a b) q p (m, first, second) = ends-cat a b q m p first (spans-ends a q m first) (spans-ends b m p second)
  spans-ends (alt a b) q p (inl left) = ends-left a b q p (spans-ends a q p left)
  spans-ends (alt a b) q p (inr right) = ends-right a b q p (spans-ends b q p right)
  spans-ends (plus a) q p (m, rounds, last) = ends-plus a q p (λ k. spans-ends a k p) m rounds (spans-ends a m p last)

  -- each position that is reached is entered, or follows one that is reached, and takes its byte

  arrives-cat_lower : (a b : Core) (y q e : ℕ) → y < count a → Arrives a y q e → Arrives (cat a b) y q e
  arrives-cat_lower a b y q e below (arrives p end byte (entered same is)) =
      arrives p end (subst (λ s. Byte s p) (sym (set-cat_lower a b y below)) byte) (entered same (enter-cat_lower a b (context p) y below ∙ is))
  arrives-cat_lower a b y q e below (arrives p end byte (followed x reach is)) =
      let under : x < count a = reach-below a x q p reach in
      arrives p end (subst (λ s. Byte s p) (sym (set-cat_lower a b y below)) byte)
      (followed x (cat-lower a b x q p under reach) (follow-cat_lower_lower a b (context p) x y under below ∙ is))

  from-cat_seam : (a b : Core) (y q m p : ℕ) → CoreSpans context Byte a q m → m ≡ p → enter b y (context p) ≡ true → Ends a q p → From (cat a b) (count a + y) q p
  from-cat_seam a b y q m p first same is (ends_empty same' is') =
      entered same' (enter-cat_upper a b (context p) y ∙ of_both (null a (context p)) (enter b y (context p)) is' is)
  from-cat_seam a b y q m p first same is (ends_at x reach is') =
      let under : x < count a = reach-below a x q p reach in
      followed x (cat-lower a b x q p under reach)
      (follow-cat_lower_upper a b (context p) x y under ∙ of_both (accept a x (context p)) (enter b y (context p)) is' is)

  arrives-cat_upper : (a b : Core) (y q m e : ℕ) → CoreSpans context Byte a q m → Arrives b y m e → Arrives (cat a b) (count a + y) q e
  arrives-cat_upper a b y q m e first (arrives p end byte (entered same is)) =
      arrives p end (subst (λ s. Byte s p) (sym (set-cat_upper a b y)) byte)
      (from-cat_seam a b y q m p first same is (spans-ends a q p (subst (CoreSpans context Byte a q) same first)))
  arrives-cat_upper a b y q m e first (arrives p end byte (followed x reach is)) =
      arrives p end (subst (λ s. Byte s p) (sym (set-cat_upper a b y)) byte)
      (followed (count a + x) (cat-upper a b x q m p first reach) (follow-cat_upper_upper a b (context p) x y ∙ is))

  arrives-cat : (a b : Core) (q e : ℕ) → ((y : ℕ) → Reach a y q e → Arrives a y q e) → ((y m : ℕ) → Reach b y m e → Arrives b y m e) →
      (y : ℕ) → Side (count a) y → Reach (cat a b) y q e → Arrives (cat a b) y q e
  arrives-cat a b q e in_a in_b y (lower _ below) reach = arrives-cat_lower a b y q e below (in_a y (lower-cat a b y q e below reach))
  arrives-cat a b q e in_a in_b y (upper z) reach =
      let (m, first, rest) = upper-cat a b z q e reach in
      arrives-cat_upper a b z q m e first (in_b z m rest)

  arrives-alt_lower : (a b : Core) (y q e : ℕ) → y < count a → Arrives a y q e → Arrives (alt a b) y q e
  arrives-alt_lower a b y q e below (arrives p end byte (entered same is)) =
      arrives p end (subst (λ s. Byte s p) (sym (set-alt_lower a b y below)) byte) (entered same (enter-alt_lower a b (context p) y below ∙ is))
  arrives-alt_lower a b y q e below (arrives p end byte (followed x reach is)) =
      let under : x < count a = reach-below a x q p reach in
      arrives p end (subst (λ s. Byte s p) (sym (set-alt_lower a b y below)) byte)
      (followed x (alt-lower a b x q p under reach) (follow-alt_lower_lower a b (context p) x y under below ∙ is))

  arrives-alt_upper : (a b : Core) (y q e : ℕ) → Arrives b y q e → Arrives (alt a b) (count a + y) q e
  arrives-alt_upper a b y q e (arrives p end byte (entered same is)) =
      arrives p end (subst (λ s. Byte s p) (sym (set-alt_upper a b y)) byte) (entered same (enter-alt_upper a b (context p) y ∙ is))
  arrives-alt_upper a b y q e (arrives p end byte (followed x reach is)) =
      arrives p end (subst (λ s. Byte s p) (sym (set-alt_upper a b y)) byte)
      (followed (count a + x) (alt-upper a b x q p reach) (follow-alt_upper_upper a b (context p) x y ∙ is))

  arrives-alt : (a b : Core) (q e : ℕ) → ((y : ℕ) → Reach a y q e → Arrives a y q e) → ((y : ℕ) → Reach b y q e → Arrives b y q e) →
      (y : ℕ) → Side (count a) y → Reach (alt a b) y q e → Arrives (alt a b) y q e
  arrives-alt a b q e in_a in_b y (lower _ below) reach = arrives-alt_lower a b y q e below (in_a y (lower-alt a b y q e below reach))
  arrives-alt a b q e in_a in_b y (upper z) reach = arrives-alt_upper a b z q e (in_b z (upper-alt a b z q e reach))

  -- a round begins at once, or behind a round that has ended
  from-plus_seam : (a : Core) (y q p : ℕ) → enter a y (context p) ≡ true → Ends (plus a) q p → From (plus a) y q p
  from-plus_seam a y q p is (ends_empty same is') = entered same is
  from-plus_seam a y q p is (ends_at x reach is') =
      followed x reach (right_of_either (follow a x y (context p)) (accept a x (context p) && enter a y (context p)) (of_both (accept a x (context p)) (enter a y (context p)) is' is))

  from-plus_begin : (a : Core) (y q m p : ℕ) → CoreSpans context Byte (star a) q m → m ≡ p → enter a y (context p) ≡ true → From (plus a) y q p
  from-plus_begin a y q m p (inr none) same is = entered (none ∙ same) is
  from-plus_begin a y q m p (inl some) same is = from-plus_seam a y q p is (spans-ends (plus a) q p (subst (CoreSpans context Byte (plus a) q) same some))

  arrives-plus : (a : Core) (y q m e : ℕ) → CoreSpans context Byte (star a) q m → Arrives a y m e → Arrives (plus a) y q e
  arrives-plus a y q m e rounds (arrives p end byte (entered same is)) = arrives p end byte (from-plus_begin a y q m p rounds same is)
  arrives-plus a y q m e rounds (arrives p end byte (followed x reach is)) =
      arrives p end byte (followed x (m, rounds, reach) (left_of_either (follow a x y (context p)) (accept a x (context p) && enter a y (context p)) is))

  pub reach-arrives : (r : Core) (y q e : ℕ) → Reach r y q e → Arrives r y q e
  reach-arrives fail y q e reach = absurd reach
  reach-arrives empty y q e reach = absurd reach
  reach-arrives (class set) zero q e (byte, end) = arrives q end byte (entered refl refl)
  reach-arrives (class set) (suc y) q e reach = absurd reach
  reach-arrives (assert assertion) y q e reach = absurd reach
  reach-arrives (cat a b) y q e reach = arrives-cat a b q e (λ k. reach-arrives a k q e) (λ k m. reach-arrives b k m e) y (side (count a) y) reach
  reach-arrives (alt a b) y q e reach = arrives-alt a b q e (λ k. reach-arrives a k q e) (λ k. reach-arrives b k q e) y (side (count a) y) reach
  reach-arrives (plus a) y q e (m, rounds, reach) = arrives-plus a y q m e rounds (reach-arrives a y m e reach)

  -- what leads to a position of a part

  from-cat_lower_side : (a b : Core) (y q p : ℕ) → y < count a → (x : ℕ) → Side (count a) x → Reach (cat a b) x q p → follow (cat a b) x y (context p) ≡ true → From a y q p
  from-cat_lower_side a b y q p below x (lower _ under) reach is =
      followed x (lower-cat a b x q p under reach) (sym (follow-cat_lower_lower a b (context p) x y under below) ∙ is)
  from-cat_lower_side a b y q p below x (upper k) reach is =
      absurd (let e : false ≡ true = sym (follow-cat_upper_lower a b (context p) k y below) ∙ is in cc)

  from-cat_lower : (a b : Core) (y q p : ℕ) → y < count a → From (cat a b) y q p → From a y q p
  from-cat_lower a b y q p below (entered same is) = entered same (sym (enter-cat_lower a b (context p) y below) ∙ is)
  from-cat_lower a b y q p below (followed x reach is) = from-cat_lower_side a b y q p below x (side (count a) x) reach is

  from-cat_upper_side : (a b : Core) (y q p x : ℕ) → Side (count a) x → Reach (cat a b) x q p → follow (cat a b) x (count a + y) (context p) ≡ true →
      (m : ℕ) × CoreSpans context Byte a q m × From b y m p
  from-cat_upper_side a b y q p x (lower _ under) reach is =
      let both : (accept a x (context p) && enter b y (context p)) ≡ true = sym (follow-cat_lower_upper a b (context p) x y under) ∙ is in (
        p,
        accept-span a x q p (lower-cat a b x q p under reach) (first_of_both (accept a x (context p)) (enter b y (context p)) both),
        entered refl (second_of_both (accept a x (context p)) (enter b y (context p)) both),
      )
  from-cat_upper_side a b y q p x (upper k) reach is =
      let (m, first, rest) = upper-cat a b k q p reach in
      (m, first, followed k rest (sym (follow-cat_upper_upper a b (context p) k y) ∙ is))

  from-cat_upper : (a b : Core) (y q p : ℕ) → From (cat a b) (count a + y) q p → (m : ℕ) × CoreSpans context Byte a q m × From b y m p
  from-cat_upper a b y q p (entered same is) =
      let both : (null a (context p) && enter b y (context p)) ≡ true = sym (enter-cat_upper a b (context p) y) ∙ is in (
        p,
        subst (λ k. CoreSpans context Byte a k p) (sym same) (null-span a p (first_of_both (null a (context p)) (enter b y (context p)) both)),
        entered refl (second_of_both (null a (context p)) (enter b y (context p)) both),
      )
  from-cat_upper a b y q p (followed x reach is) = from-cat_upper_side a b y q p x (side (count a) x) reach is

  from-alt_lower_side : (a b : Core) (y q p : ℕ) → y < count a → (x : ℕ) → Side (count a) x → Reach (alt a b) x q p → follow (alt a b) x y (context p) ≡ true → From a y q p
  from-alt_lower_side a b y q p below x (lower _ under) reach is =
      followed x (lower-alt a b x q p under reach) (sym (follow-alt_lower_lower a b (context p) x y under below) ∙ is)
  from-alt_lower_side a b y q p below x (upper k) reach is =
      absurd (let e : false ≡ true = sym (follow-alt_upper_lower a b (context p) k y below) ∙ is in cc)

  from-alt_lower : (a b : Core) (y q p : ℕ) → y < count a → From (alt a b) y q p → From a y q p
  from-alt_lower a b y q p below (entered same is) = entered same (sym (enter-alt_lower a b (context p) y below) ∙ is)
  from-alt_lower a b y q p below (followed x reach is) = from-alt_lower_side a b y q p below x (side (count a) x) reach is

  from-alt_upper_side : (a b : Core) (y q p x : ℕ) → Side (count a) x → Reach (alt a b) x q p → follow (alt a b) x (count a + y) (context p) ≡ true → From b y q p
  from-alt_upper_side a b y q p x (lower _ under) reach is =
      absurd (let e : false ≡ true = sym (follow-alt_lower_upper a b (context p) x y under) ∙ is in cc)
  from-alt_upper_side a b y q p x (upper k) reach is =
      followed k (upper-alt a b k q p reach) (sym (follow-alt_upper_upper a b (context p) k y) ∙ is)

  from-alt_upper : (a b : Core) (y q p : ℕ) → From (alt a b) (count a + y) q p → From b y q p
  from-alt_upper a b y q p (entered same is) = entered same (sym (enter-alt_upper a b (context p) y) ∙ is)
  from-alt_upper a b y q p (followed x reach is) = from-alt_upper_side a b y q p x (side (count a) x) reach is

  from-plus : (a : Core) (y q p : ℕ) → From (plus a) y q p → (m : ℕ) × CoreSpans context Byte (star a) q m × From a y m p
  from-plus a y q p (entered same is) = (q, inr refl, entered same is)
  from-plus a y q p (followed x (m, rounds, reach) is) =
      elim (of_either (follow a x y (context p)) (accept a x (context p) && enter a y (context p)) is) [
        | inl within ↦ (m, rounds, followed x reach within)
        | inr again ↦ (
          p,
          inl (m, star-rounds a q m rounds, accept-span a x m p reach (first_of_both (accept a x (context p)) (enter a y (context p)) again)),
          entered refl (second_of_both (accept a x (context p)) (enter a y (context p)) again),
        )
      ]

  -- a position that is entered, or follows one that is reached, is reached behind its byte

  from_reach-cat : (a b : Core) (q p : ℕ) → ((y : ℕ) → Byte (set_of a y) p → From a y q p → Reach a y q (p + 1)) →
      ((y m : ℕ) → Byte (set_of b y) p → From b y m p → Reach b y m (p + 1)) →
      (y : ℕ) → Side (count a) y → Byte (set_of (cat a b) y) p → From (cat a b) y q p → Reach (cat a b) y q (p + 1)
  from_reach-cat a b q p in_a in_b y (lower _ below) byte from =
      cat-lower a b y q (p + 1) below (in_a y (subst (λ s. Byte s p) (set-cat_lower a b y below) byte) (from-cat_lower a b y q p below from))
  from_reach-cat a b q p in_a in_b y (upper k) byte from =
      let (m, first, rest) = from-cat_upper a b k q p from in
      cat-upper a b k q m (p + 1) first (in_b k m (subst (λ s. Byte s p) (set-cat_upper a b k) byte) rest)

  from_reach-alt : (a b : Core) (q p : ℕ) → ((y : ℕ) → Byte (set_of a y) p → From a y q p → Reach a y q (p + 1)) →
      ((y : ℕ) → Byte (set_of b y) p → From b y q p → Reach b y q (p + 1)) →
      (y : ℕ) → Side (count a) y → Byte (set_of (alt a b) y) p → From (alt a b) y q p → Reach (alt a b) y q (p + 1)
  from_reach-alt a b q p in_a in_b y (lower _ below) byte from =
      alt-lower a b y q (p + 1) below (in_a y (subst (λ s. Byte s p) (set-alt_lower a b y below) byte) (from-alt_lower a b y q p below from))
  from_reach-alt a b q p in_a in_b y (upper k) byte from =
      alt-upper a b k q (p + 1) (in_b k (subst (λ s. Byte s p) (set-alt_upper a b k) byte) (from-alt_upper a b k q p from))

  -- an expression that no position is entered or follows in
  no-from : (r : Core) (y q p : ℕ) → enter r y (context p) ≡ false → ((x : ℕ) → follow r x y (context p) ≡ false) → From r y q p → ⊥
  no-from r y q p no_enter no_follow (entered same is) = let e : false ≡ true = sym no_enter ∙ is in cc
  no-from r y q p no_enter no_follow (followed x reach is) = let e : false ≡ true = sym (no_follow x) ∙ is in cc

  from_reach-class : (set : List Bool) (q p : ℕ) → Byte set p → From (class set) zero q p → Reach (class set) zero q (p + 1)
  from_reach-class set q p byte (entered same is) = (subst (Byte set) (sym same) byte, ap (λ k. k + 1) (sym same))
  from_reach-class set q p byte (followed x reach is) = absurd (let e : false ≡ true = is in cc)

  pub from-reach : (r : Core) (y q p : ℕ) → Byte (set_of r y) p → From r y q p → Reach r y q (p + 1)
  from-reach fail y q p byte from = absurd (no-from fail y q p refl (λ x. refl) from)
  from-reach empty y q p byte from = absurd (no-from empty y q p refl (λ x. refl) from)
  from-reach (class set) zero q p byte from = from_reach-class set q p byte from
  from-reach (class set) (suc y) q p byte from = absurd (no-from (class set) (suc y) q p refl (λ x. refl) from)
  from-reach (assert assertion) y q p byte from = absurd (no-from (assert assertion) y q p refl (λ x. refl) from)
  from-reach (cat a b) y q p byte from = from_reach-cat a b q p (λ k. from-reach a k q p) (λ k m. from-reach b k m p) y (side (count a) y) byte from
  from-reach (alt a b) y q p byte from = from_reach-alt a b q p (λ k. from-reach a k q p) (λ k. from-reach b k q p) y (side (count a) y) byte from
  from-reach (plus a) y q p byte from =
      let (m, rounds, rest) = from-plus a y q p from in
      (m, rounds, from-reach a y m p byte rest)

  -- the positions of a path are reached, and each that is reached has a path

  pub path-reach : (r : Core) (q y e : ℕ) → Path context Byte r q y e → Reach r y q e
  path-reach r q y e (path_enter y' e' end is byte) =
      subst (Reach r y' q) (sym end) (from-reach r y' q q byte (entered refl is))
  path-reach r q y e (path_step x y' p e' end path is byte) =
      subst (Reach r y' q) (sym end) (from-reach r y' q p byte (followed x (path-reach r q x p path) is))

  arrives-path : (r : Core) (y q e : ℕ) → ((x p : ℕ) → e ≡ p + 1 → Reach r x q p → Path context Byte r q x p) → Arrives r y q e → Path context Byte r q y e
  arrives-path r y q e before (arrives p end byte (entered same is)) =
      path_enter y e (end ∙ ap (λ k. k + 1) (sym same)) (subst (λ k. enter r y (context k) ≡ true) (sym same) is) (subst (Byte (set_of r y)) (sym same) byte)
  arrives-path r y q e before (arrives p end byte (followed x reach is)) = path_step x y p e end (before x p end reach) is byte

  pub reach-path : (e : ℕ) (r : Core) (q y : ℕ) → Reach r y q e → Path context Byte r q y e
  reach-path zero r q y reach = arrives-path r y q zero (λ x p end. absurd (omega arith)) (reach-arrives r y q zero reach)
  reach-path (suc k) r q y reach =
      arrives-path r y q (suc k)
      (λ x p end here. let e : p ≡ k = omega arith in subst (Path context Byte r q x) (sym e) (reach-path k r q x (subst (Reach r x q) e here)))
      (reach-arrives r y q (suc k) reach)

-- a path sees the bytes and the contexts before its end alone
pub path-same : (context context' : ℕ → Context) (Byte Byte' : List Bool → ℕ → Type 0) (r : Core) (q x p : ℕ) →
    ((i : ℕ) → i < p → context i ≡ context' i) → ((i : ℕ) (set : List Bool) → i < p → Byte set i → Byte' set i) →
    Path context Byte r q x p → Path context' Byte' r q x p
path-same context context' Byte Byte' r q x p same bytes (path_enter y e end is byte) =
    let before : q < e = omega arith in
    path_enter y e end (subst (λ c. enter r y c ≡ true) (same q before) is) (bytes q (set_of r y) before byte)
path-same context context' Byte Byte' r q x p same bytes (path_step z y k e end path is byte) =
    let before : k < e = omega arith in
    path_step z y k e end
    (path-same context context' Byte Byte' r q z k (λ i below. same i (omega arith)) (λ i set below. bytes i set (omega arith)) path)
    (subst (λ c. follow r z y c ≡ true) (same k before) is) (bytes k (set_of r y) before byte)
