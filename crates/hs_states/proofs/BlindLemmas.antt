-- Without an assertion no context matters.
use Rattle.std.proofs.Common.{◌≡◌, ℕ, zero, suc, ◌-◌, Bool, true, false, ◌&&◌, ◌||◌, Option, Some, None, refl, ap, ◌∙◌}
use Rattle.std.specs.Prelude.{nat_lt, if◌then◌else◌}
use Rattle.hs_base.specs.Contexts.{Context}
use Rattle.hs_base.specs.Trees as tree
use Rattle.hs_base.specs.Trees.{Tree, Trees}
use Rattle.hs_base.specs.WrittenOut.{Core, fail, empty, class, assert, cat, alt, plus, alt_from, at_least, cat_from, copies_then, count, pick, repeat_of, up_to, write_out}
use Rattle.hs_engine.specs.Positions.{accept, enter, follow, null}
use Rattle.hs_base.specs.AssertionTests.{has_assertion, one_has_assertion}

-- it is one and the same in every context whether a position is entered, follows another, or accepts
pub record IsBlind (r : Core) : Type 0 where
  pub enters : (x : ℕ) (c d : Context) → enter r x c ≡ enter r x d
  pub follows : (x y : ℕ) (c d : Context) → follow r x y c ≡ follow r x y d
  pub accepts : (x : ℕ) (c d : Context) → accept r x c ≡ accept r x d

-- no assertion stands in it
abbrev IsFree : Core → Type 0
IsFree fail = Unit {0}
IsFree empty = Unit {0}
IsFree (class set) = Unit {0}
IsFree (assert assertion) = ⊥
IsFree (cat a b) = IsFree a × IsFree b
IsFree (alt a b) = IsFree a × IsFree b
IsFree (plus a) = IsFree a

either-same : (b p q s t : Bool) → p ≡ s → q ≡ t → (if b then p else q) ≡ (if b then s else t)
either-same true p q s t one other = one
either-same false p q s t one other = other

pick-same : (n : ℕ) (f g h k : ℕ → Bool) (x : ℕ) → ((y : ℕ) → f y ≡ h y) → ((y : ℕ) → g y ≡ k y) → pick n f g x ≡ pick n h k x
unfolding pick
pick-same n f g h k x one other = either-same (nat_lt x n) (f x) (g (x - n)) (h x) (k (x - n)) (one x) (other (x - n))

and-same : (p q s t : Bool) → p ≡ s → q ≡ t → (p && q) ≡ (s && t)
and-same p q s t one other = ap (λ z. z && q) one ∙ ap (λ z. s && z) other

or-same : (p q s t : Bool) → p ≡ s → q ≡ t → (p || q) ≡ (s || t)
or-same p q s t one other = ap (λ z. z || q) one ∙ ap (λ z. s || z) other

module _ (c d : Context) where
  null-same : (r : Core) → IsFree r → null r c ≡ null r d
  null-same fail free = refl
  null-same empty free = refl
  null-same (class set) free = refl
  null-same (assert assertion) free = absurd free
  null-same (cat a b) free = and-same (null a c) (null b c) (null a d) (null b d) (null-same a free.0) (null-same b free.1)
  null-same (alt a b) free = or-same (null a c) (null b c) (null a d) (null b d) (null-same a free.0) (null-same b free.1)
  null-same (plus a) free = null-same a free

  enter-same : (r : Core) → IsFree r → (x : ℕ) → enter r x c ≡ enter r x d
  enter-same fail free x = refl
  enter-same empty free x = refl
  enter-same (class set) free zero = refl
  enter-same (class set) free (suc x) = refl
  enter-same (assert assertion) free x = refl
  enter-same (cat a b) free x =
      pick-same (count a) (λ y. enter a y c) (λ y. null a c && enter b y c) (λ y. enter a y d) (λ y. null a d && enter b y d) x (enter-same a free.0)
      (λ y. and-same (null a c) (enter b y c) (null a d) (enter b y d) (null-same a free.0) (enter-same b free.1 y))
  enter-same (alt a b) free x =
      pick-same (count a) (λ y. enter a y c) (λ y. enter b y c) (λ y. enter a y d) (λ y. enter b y d) x (enter-same a free.0) (enter-same b free.1)
  enter-same (plus a) free x = enter-same a free x

  accept-same : (r : Core) → IsFree r → (x : ℕ) → accept r x c ≡ accept r x d
  accept-same fail free x = refl
  accept-same empty free x = refl
  accept-same (class set) free zero = refl
  accept-same (class set) free (suc x) = refl
  accept-same (assert assertion) free x = refl
  accept-same (cat a b) free x =
      pick-same (count a) (λ y. accept a y c && null b c) (λ y. accept b y c) (λ y. accept a y d && null b d) (λ y. accept b y d) x
      (λ y. and-same (accept a y c) (null b c) (accept a y d) (null b d) (accept-same a free.0 y) (null-same b free.1)) (accept-same b free.1)
  accept-same (alt a b) free x =
      pick-same (count a) (λ y. accept a y c) (λ y. accept b y c) (λ y. accept a y d) (λ y. accept b y d) x (accept-same a free.0) (accept-same b free.1)
  accept-same (plus a) free x = accept-same a free x

  follow-same : (r : Core) → IsFree r → (x y : ℕ) → follow r x y c ≡ follow r x y d
  follow-same fail free x y = refl
  follow-same empty free x y = refl
  follow-same (class set) free x y = refl
  follow-same (assert assertion) free x y = refl
  follow-same (cat a b) free x y =
      pick-same (count a) (λ k. pick (count a) (λ l. follow a k l c) (λ l. accept a k c && enter b l c) y) (λ k. pick (count a) (λ l. false) (λ l. follow b k l c) y)
      (λ k. pick (count a) (λ l. follow a k l d) (λ l. accept a k d && enter b l d) y) (λ k. pick (count a) (λ l. false) (λ l. follow b k l d) y) x
      (λ k.
      pick-same (count a) (λ l. follow a k l c) (λ l. accept a k c && enter b l c) (λ l. follow a k l d) (λ l. accept a k d && enter b l d) y (follow-same a free.0 k)
      (λ l. and-same (accept a k c) (enter b l c) (accept a k d) (enter b l d) (accept-same a free.0 k) (enter-same b free.1 l)))
      (λ k. pick-same (count a) (λ l. false) (λ l. follow b k l c) (λ l. false) (λ l. follow b k l d) y (λ l. refl) (follow-same b free.1 k))
  follow-same (alt a b) free x y =
      pick-same (count a) (λ k. pick (count a) (λ l. follow a k l c) (λ l. false) y) (λ k. pick (count a) (λ l. false) (λ l. follow b k l c) y)
      (λ k. pick (count a) (λ l. follow a k l d) (λ l. false) y) (λ k. pick (count a) (λ l. false) (λ l. follow b k l d) y) x
      (λ k. pick-same (count a) (λ l. follow a k l c) (λ l. false) (λ l. follow a k l d) (λ l. false) y (follow-same a free.0 k) (λ l. refl))
      (λ k. pick-same (count a) (λ l. false) (λ l. follow b k l c) (λ l. false) (λ l. follow b k l d) y (λ l. refl) (follow-same b free.1 k))
  follow-same (plus a) free x y =
      or-same (follow a x y c) (accept a x c && enter a y c) (follow a x y d) (accept a x d && enter a y d) (follow-same a free x y)
      (and-same (accept a x c) (enter a y c) (accept a x d) (enter a y d) (accept-same a free x) (enter-same a free y))

-- writing out brings in no assertion

copies-free : (n : ℕ) (a b : Core) → IsFree a → IsFree b → IsFree (copies_then n a b)
copies-free zero a b free rest = rest
copies-free (suc n) a b free rest = (free, copies-free n a b free rest)

up_to-free : (n : ℕ) (a : Core) → IsFree a → IsFree (up_to n a)
up_to-free zero a free = tt
up_to-free (suc n) a free = ((free, up_to-free n a free), tt)

at_least-free : (n : ℕ) (a : Core) → IsFree a → IsFree (at_least n a)
at_least-free zero a free = (free, tt)
at_least-free (suc n) a free = copies-free n a (plus a) free free

repeat-free : (n : ℕ) (most : Option ℕ) (a : Core) → IsFree a → IsFree (repeat_of n most a)
repeat-free n None a free = at_least-free n a free
repeat-free n (Some m) a free = copies-free n a (up_to (m - n) a) free (up_to-free (m - n) a free)

neither-first : (a b : Bool) → (a || b) ≡ false → a ≡ false
neither-first true b none = none
neither-first false b none = refl

neither-second : (a b : Bool) → (a || b) ≡ false → b ≡ false
neither-second true b none = absurd (let e : true ≡ false = none in cc)
neither-second false b none = none

mutual
  written-free : (t : Tree) → has_assertion t ≡ false → IsFree (write_out t)
  written-free tree.empty none = tt
  written-free (tree.class set) none = tt
  written-free (tree.points ranges) none = tt
  written-free (tree.assert assertion) none = absurd (let e : true ≡ false = none in cc)
  written-free (tree.cat items) none = cat-free items empty none tt
  written-free (tree.alt items) none = alt-free items fail none tt
  written-free (tree.repeat body least greatest) none = repeat-free least greatest (write_out body) (written-free body none)

  cat-free : (items : Trees) (before : Core) → one_has_assertion items ≡ false → IsFree before → IsFree (cat_from before items)
  cat-free tree.none before none free = free
  cat-free (tree.more item items) before none free =
      cat-free items (cat before (write_out item)) (neither-second (has_assertion item) (one_has_assertion items) none)
      (free, written-free item (neither-first (has_assertion item) (one_has_assertion items) none))

  alt-free : (items : Trees) (before : Core) → one_has_assertion items ≡ false → IsFree before → IsFree (alt_from before items)
  alt-free tree.none before none free = free
  alt-free (tree.more item items) before none free =
      alt-free items (alt before (write_out item)) (neither-second (has_assertion item) (one_has_assertion items) none)
      (free, written-free item (neither-first (has_assertion item) (one_has_assertion items) none))

pub written-blind : (t : Tree) → has_assertion t ≡ false → IsBlind (write_out t)
written-blind t none =
    let free : IsFree (write_out t) = written-free t none in
    record {
      enters = λ x c d. enter-same c d (write_out t) free x;
      follows = λ x y c d. follow-same c d (write_out t) free x y;
      accepts = λ x c d. accept-same c d (write_out t) free x;
    }
