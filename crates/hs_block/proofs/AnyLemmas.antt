-- Whether one of the numbers below another passes a test.
use Rattle.std.proofs.Common.{◌≡◌, ℕ, zero, suc, ◌+◌, ◌-◌, ◌<◌, ◌≤◌, Bool, true, false, ◌&&◌, ◌||◌, refl, sym, ap, subst, ◌∙◌, ◌⊎◌, inl, inr, arith}
use Rattle.std.proofs.lemmas.Bool.{cases_eq, cases_lt}
use Rattle.hs_base.proofs.ContextLemmas.{first_of_both, second_of_both, of_both, of_either, left_of_either, right_of_either}
use Rattle.hs_engine.specs.AnyBelow.{any_below}

pub true-or-false : (b : Bool) → (b ≡ true) ⊎ (b ≡ false)
true-or-false true = inl refl
true-or-false false = inr refl

pub true-false : {A : Type 0} (b : Bool) → b ≡ true → b ≡ false → A
true-false b is isnt = absurd (let e : true ≡ false = sym is ∙ isnt in cc)

-- truth values are the same where each follows from the other
pub same-truth : (a b : Bool) → (a ≡ true → b ≡ true) → (b ≡ true → a ≡ true) → a ≡ b
same-truth true b one other = sym (one refl)
same-truth false true one other = other refl
same-truth false false one other = refl

pub any-some : (n : ℕ) (test : ℕ → Bool) → any_below n test ≡ true → (x : ℕ) × (x < n) × (test x ≡ true)
any-some zero test any = absurd (let e : false ≡ true = any in cc)
any-some (suc n) test any =
    elim (of_either (test n) (any_below n test) any) [
      | inl here ↦ (n, omega arith, here)
      | inr before ↦ let (x, below, is) = any-some n test before in (x, omega arith, is)
    ]

pub some-any : (n : ℕ) (test : ℕ → Bool) (x : ℕ) → x < n → test x ≡ true → any_below n test ≡ true
some-any zero test x below is = absurd (omega arith)
some-any (suc n) test x below is =
    elim (cases_eq x n) [
      | inl same ↦ left_of_either (test n) (any_below n test) (subst (λ z. test z ≡ true) same is)
      | inr apart ↦ right_of_either (test n) (any_below n test) (some-any n test x (omega arith) is)
    ]

pub any-same : (n : ℕ) (f g : ℕ → Bool) → ((x : ℕ) → x < n → f x ≡ g x) → any_below n f ≡ any_below n g
any-same zero f g same = refl
any-same (suc n) f g same =
    ap (λ b. b || any_below n f) (same n (omega arith)) ∙ ap (λ b. g n || b) (any-same n f g (λ x below. same x (omega arith)))

pub any-none : (n : ℕ) (f : ℕ → Bool) → ((x : ℕ) → x < n → f x ≡ false) → any_below n f ≡ false
any-none zero f none_ = refl
any-none (suc n) f none_ = ap (λ b. b || any_below n f) (none_ n (omega arith)) ∙ any-none n f (λ x below. none_ x (omega arith))

pub none-any : (n : ℕ) (f : ℕ → Bool) → any_below n f ≡ false → (x : ℕ) → x < n → f x ≡ false
none-any n f none_ x below =
    elim (true-or-false (f x)) [
      | inl is ↦ true-false (any_below n f) (some-any n f x below is) none_
      | inr isnt ↦ isnt
    ]

-- none from there on passes
pub any-fewer : (n m : ℕ) (f : ℕ → Bool) → n ≤ m → ((x : ℕ) → n ≤ x → f x ≡ false) → any_below m f ≡ any_below n f
any-fewer n m f few rest =
    same-truth (any_below m f) (any_below n f)
    (λ any.
    let (x, below, is) = any-some m f any in
    elim (cases_lt x n) [
      | inl inside ↦ some-any n f x inside is
      | inr past ↦ true-false (f x) is (rest x past)
    ])
    (λ any. let (x, below, is) = any-some n f any in some-any m f x (omega arith) is)

-- none from either there on passes
pub any-either : (n m : ℕ) (f : ℕ → Bool) → ((x : ℕ) → n ≤ x → f x ≡ false) → ((x : ℕ) → m ≤ x → f x ≡ false) → any_below m f ≡ any_below n f
any-either n m f few rest =
    same-truth (any_below m f) (any_below n f)
    (λ any.
    let (x, below, is) = any-some m f any in
    elim (cases_lt x n) [
      | inl inside ↦ some-any n f x inside is
      | inr past ↦ true-false (f x) is (few x past)
    ])
    (λ any.
    let (x, below, is) = any-some n f any in
    elim (cases_lt x m) [
      | inl inside ↦ some-any m f x inside is
      | inr past ↦ true-false (f x) is (rest x past)
    ])

-- none between the two numbers passes
pub any-skip : (n m : ℕ) (f : ℕ → Bool) → n ≤ m → ((x : ℕ) → n ≤ x → x < m → f x ≡ false) → any_below m f ≡ any_below n f
any-skip n m f few between =
    same-truth (any_below m f) (any_below n f)
    (λ any.
    let (x, below, is) = any-some m f any in
    elim (cases_lt x n) [
      | inl inside ↦ some-any n f x inside is
      | inr past ↦ true-false (f x) is (between x past below)
    ])
    (λ any. let (x, below, is) = any-some n f any in some-any m f x (omega arith) is)

-- those below a number, and so many from there on
pub any-split : (n k : ℕ) (f : ℕ → Bool) → any_below (n + k) f ≡ (any_below n f || any_below k (λ y. f (n + y)))
any-split n k f =
    same-truth (any_below (n + k) f) (any_below n f || any_below k (λ y. f (n + y)))
    (λ any.
    let (x, below, is) = any-some (n + k) f any in
    elim (cases_lt x n) [
      | inl inside ↦ left_of_either (any_below n f) (any_below k (λ y. f (n + y))) (some-any n f x inside is)
      | inr past ↦
          let e : x ≡ n + (x - n) = omega arith in
          right_of_either (any_below n f) (any_below k (λ y. f (n + y))) (some-any k (λ y. f (n + y)) (x - n) (omega arith) (sym (ap f e) ∙ is))
    ])
    (λ either.
    elim (of_either (any_below n f) (any_below k (λ y. f (n + y))) either) [
      | inl any ↦ let (x, below, is) = any-some n f any in some-any (n + k) f x (omega arith) is
      | inr any ↦ let (x, below, is) = any-some k (λ y. f (n + y)) any in some-any (n + k) f (n + x) (omega arith) is
    ])

-- what passes with either test
pub any-or : (n : ℕ) (l a b : ℕ → Bool) → (any_below n (λ y. l y && a y) || any_below n (λ y. l y && b y)) ≡ any_below n (λ y. l y && (a y || b y))
any-or n l a b =
    same-truth (any_below n (λ y. l y && a y) || any_below n (λ y. l y && b y)) (any_below n (λ y. l y && (a y || b y)))
    (λ either.
    elim (of_either (any_below n (λ y. l y && a y)) (any_below n (λ y. l y && b y)) either) [
      | inl any ↦
          let (x, below, is) = any-some n (λ y. l y && a y) any in
          some-any n (λ y. l y && (a y || b y)) x below (of_both (l x) (a x || b x) (first_of_both (l x) (a x) is) (left_of_either (a x) (b x) (second_of_both (l x) (a x) is)))
      | inr any ↦
          let (x, below, is) = any-some n (λ y. l y && b y) any in
          some-any n (λ y. l y && (a y || b y)) x below (of_both (l x) (a x || b x) (first_of_both (l x) (b x) is) (right_of_either (a x) (b x) (second_of_both (l x) (b x) is)))
    ])
    (λ any.
    let (x, below, is) = any-some n (λ y. l y && (a y || b y)) any in
    let live : l x ≡ true = first_of_both (l x) (a x || b x) is in
    elim (of_either (a x) (b x) (second_of_both (l x) (a x || b x) is)) [
      | inl one ↦ left_of_either (any_below n (λ y. l y && a y)) (any_below n (λ y. l y && b y)) (some-any n (λ y. l y && a y) x below (of_both (l x) (a x) live one))
      | inr other ↦ right_of_either (any_below n (λ y. l y && a y)) (any_below n (λ y. l y && b y)) (some-any n (λ y. l y && b y) x below (of_both (l x) (b x) live other))
    ])
