-- Beyond its positions an expression says nothing.
use Rattle.std.proofs.Common.{◌≡◌, ℕ, zero, suc, ◌+◌, ◌≤◌, ◌⊎◌, Bool, true, false, ◌&&◌, ◌||◌, [], refl, ap, ◌∙◌, inl, inr, arith}
use Rattle.hs_base.specs.Contexts.{Context}
use Rattle.hs_base.specs.WrittenOut.{Core, fail, empty, class, assert, cat, alt, plus, count, set_of}
use Rattle.hs_engine.specs.Positions.{enter, accept, follow}
use Rattle.hs_engine.proofs.PositionLemmas.{Side, lower, upper, side, set-cat_upper, set-alt_upper, enter-cat_upper, enter-alt_upper, accept-cat_upper, accept-alt_upper, follow-cat_lower_upper, follow-cat_upper_lower, follow-cat_upper_upper, follow-alt_lower_upper, follow-alt_upper_lower, follow-alt_upper_upper}

and-nothing : (a b : Bool) → b ≡ false → (a && b) ≡ false
and-nothing true b isnt = isnt
and-nothing false b isnt = refl

neither : (a b c : Bool) → a ≡ false → b ≡ false → (a || (c && b)) ≡ false
neither a b c na nb = ap (λ z. z || (c && b)) na ∙ and-nothing c b nb

-- of the two parts

module _ (a b : Core) where
  past-set_cat : ((y : ℕ) → count b ≤ y → set_of b y ≡ []) → (x : ℕ) → Side (count a) x → count a + count b ≤ x → set_of (cat a b) x ≡ []
  past-set_cat in_b x (lower _ below) past = absurd (omega arith)
  past-set_cat in_b x (upper y) past = set-cat_upper a b y ∙ in_b y (omega arith)

  past-set_alt : ((y : ℕ) → count b ≤ y → set_of b y ≡ []) → (x : ℕ) → Side (count a) x → count a + count b ≤ x → set_of (alt a b) x ≡ []
  past-set_alt in_b x (lower _ below) past = absurd (omega arith)
  past-set_alt in_b x (upper y) past = set-alt_upper a b y ∙ in_b y (omega arith)

  module _ (c : Context) where
    past-enter_cat : ((y : ℕ) → count b ≤ y → enter b y c ≡ false) → (x : ℕ) → Side (count a) x → count a + count b ≤ x → enter (cat a b) x c ≡ false
    past-enter_cat in_b x (lower _ below) past = absurd (omega arith)
    past-enter_cat in_b x (upper y) past = enter-cat_upper a b c y ∙ and-nothing _ (enter b y c) (in_b y (omega arith))

    past-enter_alt : ((y : ℕ) → count b ≤ y → enter b y c ≡ false) → (x : ℕ) → Side (count a) x → count a + count b ≤ x → enter (alt a b) x c ≡ false
    past-enter_alt in_b x (lower _ below) past = absurd (omega arith)
    past-enter_alt in_b x (upper y) past = enter-alt_upper a b c y ∙ in_b y (omega arith)

    past-accept_cat : ((y : ℕ) → count b ≤ y → accept b y c ≡ false) → (x : ℕ) → Side (count a) x → count a + count b ≤ x → accept (cat a b) x c ≡ false
    past-accept_cat in_b x (lower _ below) past = absurd (omega arith)
    past-accept_cat in_b x (upper y) past = accept-cat_upper a b c y ∙ in_b y (omega arith)

    past-accept_alt : ((y : ℕ) → count b ≤ y → accept b y c ≡ false) → (x : ℕ) → Side (count a) x → count a + count b ≤ x → accept (alt a b) x c ≡ false
    past-accept_alt in_b x (lower _ below) past = absurd (omega arith)
    past-accept_alt in_b x (upper y) past = accept-alt_upper a b c y ∙ in_b y (omega arith)

    shorter : (n m k x y : ℕ) → n + m ≤ k + x ⊎ n + m ≤ k + y → k ≡ n → m ≤ x ⊎ m ≤ y
    shorter n m k x y (inl past) same = inl (omega arith)
    shorter n m k x y (inr past) same = inr (omega arith)

    past-follow_cat : ((y : ℕ) → count b ≤ y → enter b y c ≡ false) → ((x y : ℕ) → count b ≤ x ⊎ count b ≤ y → follow b x y c ≡ false) → (x y : ℕ) → Side (count a) x → Side (count a) y →
        count a + count b ≤ x ⊎ count a + count b ≤ y → follow (cat a b) x y c ≡ false
    past-follow_cat in_b on x y (lower _ hx) (lower _ hy) (inl past) = absurd (omega arith)
    past-follow_cat in_b on x y (lower _ hx) (lower _ hy) (inr past) = absurd (omega arith)
    past-follow_cat in_b on x y (lower _ hx) (upper l) (inl past) = absurd (omega arith)
    past-follow_cat in_b on x y (lower _ hx) (upper l) (inr past) = follow-cat_lower_upper a b c x l hx ∙ and-nothing _ (enter b l c) (in_b l (omega arith))
    past-follow_cat in_b on x y (upper k) (lower _ hy) past = follow-cat_upper_lower a b c k y hy
    past-follow_cat in_b on x y (upper k) (upper l) past = follow-cat_upper_upper a b c k l ∙ on k l (shorter (count a) (count b) (count a) k l past refl)

    past-follow_alt : ((x y : ℕ) → count b ≤ x ⊎ count b ≤ y → follow b x y c ≡ false) → (x y : ℕ) → Side (count a) x → Side (count a) y →
        count a + count b ≤ x ⊎ count a + count b ≤ y → follow (alt a b) x y c ≡ false
    past-follow_alt on x y (lower _ hx) (lower _ hy) (inl past) = absurd (omega arith)
    past-follow_alt on x y (lower _ hx) (lower _ hy) (inr past) = absurd (omega arith)
    past-follow_alt on x y (lower _ hx) (upper l) past = follow-alt_lower_upper a b c x l hx
    past-follow_alt on x y (upper k) (lower _ hy) past = follow-alt_upper_lower a b c k y hy
    past-follow_alt on x y (upper k) (upper l) past = follow-alt_upper_upper a b c k l ∙ on k l (shorter (count a) (count b) (count a) k l past refl)

pub set-past : (r : Core) (x : ℕ) → count r ≤ x → set_of r x ≡ []
set-past fail x past = refl
set-past empty x past = refl
set-past (class set) zero past = absurd (omega arith)
set-past (class set) (suc x) past = refl
set-past (assert assertion) x past = refl
set-past (cat a b) x past = past-set_cat a b (set-past b) x (side (count a) x) past
set-past (alt a b) x past = past-set_alt a b (set-past b) x (side (count a) x) past
set-past (plus a) x past = set-past a x past

pub enter-past : (r : Core) (x : ℕ) (c : Context) → count r ≤ x → enter r x c ≡ false
enter-past fail x c past = refl
enter-past empty x c past = refl
enter-past (class set) zero c past = absurd (omega arith)
enter-past (class set) (suc x) c past = refl
enter-past (assert assertion) x c past = refl
enter-past (cat a b) x c past = past-enter_cat a b c (λ y. enter-past b y c) x (side (count a) x) past
enter-past (alt a b) x c past = past-enter_alt a b c (λ y. enter-past b y c) x (side (count a) x) past
enter-past (plus a) x c past = enter-past a x c past

pub accept-past : (r : Core) (x : ℕ) (c : Context) → count r ≤ x → accept r x c ≡ false
accept-past fail x c past = refl
accept-past empty x c past = refl
accept-past (class set) zero c past = absurd (omega arith)
accept-past (class set) (suc x) c past = refl
accept-past (assert assertion) x c past = refl
accept-past (cat a b) x c past = past-accept_cat a b c (λ y. accept-past b y c) x (side (count a) x) past
accept-past (alt a b) x c past = past-accept_alt a b c (λ y. accept-past b y c) x (side (count a) x) past
accept-past (plus a) x c past = accept-past a x c past

round-past : (follows accepts enters : Bool) → follows ≡ false → (accepts ≡ false) ⊎ (enters ≡ false) → (follows || (accepts && enters)) ≡ false
round-past follows accepts enters nf (inl na) = ap (λ z. z || (accepts && enters)) nf ∙ ap (λ z. z && enters) na
round-past follows accepts enters nf (inr ne) = ap (λ z. z || (accepts && enters)) nf ∙ and-nothing accepts enters ne

ends-past : (a : Core) (x y : ℕ) (c : Context) → count a ≤ x ⊎ count a ≤ y → (accept a x c ≡ false) ⊎ (enter a y c ≡ false)
ends-past a x y c (inl past) = inl (accept-past a x c past)
ends-past a x y c (inr past) = inr (enter-past a y c past)

pub follow-past : (r : Core) (x y : ℕ) (c : Context) → count r ≤ x ⊎ count r ≤ y → follow r x y c ≡ false
follow-past fail x y c past = refl
follow-past empty x y c past = refl
follow-past (class set) x y c past = refl
follow-past (assert assertion) x y c past = refl
follow-past (cat a b) x y c past = past-follow_cat a b c (λ z. enter-past b z c) (λ k l. follow-past b k l c) x y (side (count a) x) (side (count a) y) past
follow-past (alt a b) x y c past = past-follow_alt a b c (λ k l. follow-past b k l c) x y (side (count a) x) (side (count a) y) past
follow-past (plus a) x y c past = round-past (follow a x y c) (accept a x c) (enter a y c) (follow-past a x y c past) (ends-past a x y c past)
