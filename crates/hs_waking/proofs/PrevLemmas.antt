-- Sets of what may stand before an offset, by their bits.
use Rattle.std.proofs.Common.{◌≡◌, ℕ, zero, suc, ◌+◌, ◌*◌, ◌%◌, ◌^◌, ◌<◌, ◌≤◌, Bool, true, false, ◌&&◌, ◌||◌, List, [], ◌∷◌, ◌/◌, get_or, eqb, refl, sym, ap, ◌∙◌, inl, inr, arith, bit_or}
use Rattle.std.specs.Int.{bit_at}
use Rattle.std.proofs.lemmas.Bool.{cases_eq, eq-eqb, eqb-true, ne_eqb}
use Rattle.hs_base.specs.declared.context.Prev.{Prev}
use Rattle.hs_base.specs.declared.context.Prev.TheVariants as before
use Rattle.std.proofs.lemmas.List.{get_or-replicate}
use Rattle.hs_base.specs.declared.byte_set.ByteSet.{ByteSet}
use Rattle.hs_base.specs.Assertions.{line_feed, is_word_byte}
use Rattle.hs_waking.specs.Fits.{FitsNowhere}
use Rattle.hs_base.specs.ByteSets.{has}
use Rattle.hs_base.specs.Contexts.{prev_by, prev_number}
use Rattle.hs_base.proofs.ByteSetLemmas.{bit-or}
use Rattle.hs_base.proofs.ContextSetLemmas.{bit-all, bit-empty, bit-one, prev_number-lt}
use Rattle.hs_waking.specs.declared.prev_set.PrevSet.{PrevSet}
use Rattle.hs_waking.specs.PrevSets.{has_prev}

pub each-member : (set : PrevSet) → eqb set.bits 15 ≡ true → (prev : Prev) → has_prev set prev ≡ true
unfolding has_prev
each-member set all prev = ap (λ n. eqb (bit_at n (prev_number prev)) 1) (eqb-true set.bits 15 all) ∙ bit-all 4 (prev_number prev) (prev_number-lt prev)

pub start-member : (set : PrevSet) → eqb set.bits 1 ≡ true → (prev : Prev) → has_prev set prev ≡ true → prev ≡ before.Start
unfolding has_prev
start-member set one before.Start member = refl
start-member set one before.Word member = absurd (let e : false ≡ true = sym (ap (λ n. eqb (bit_at n 1) 1) (eqb-true set.bits 1 one)) ∙ member in cc)
start-member set one before.Newline member = absurd (let e : false ≡ true = sym (ap (λ n. eqb (bit_at n 2) 1) (eqb-true set.bits 1 one)) ∙ member in cc)
start-member set one before.Other member = absurd (let e : false ≡ true = sym (ap (λ n. eqb (bit_at n 3) 1) (eqb-true set.bits 1 one)) ∙ member in cc)

power-of-prev : (prev : Prev) → 1 * 2 ^ prev_number prev % 256 ≡ 2 ^ prev_number prev
power-of-prev before.Start = refl
power-of-prev before.Word = refl
power-of-prev before.Newline = refl
power-of-prev before.Other = refl

pub or-turned : (a b c : Bool) → b ≡ c → (a || b) ≡ ((c && true) || a)
or-turned true true true same = refl
or-turned true false false same = refl
or-turned false true true same = refl
or-turned false false false same = refl
or-turned a true false same = absurd (cc)
or-turned a false true same = absurd (cc)

-- one member more
pub with-member : (bits : ℕ) (prev other : Prev) (n : ℕ) → n ≡ prev_number prev → eqb (bit_at (bit_or bits (1 * 2 ^ n % 256)) (prev_number other)) 1 ≡ ((eqb (prev_number other) (prev_number prev) && true) || eqb (bit_at bits (prev_number other)) 1)
with-member bits prev other n same =
    bit-or bits (1 * 2 ^ n % 256) (prev_number other)
    ∙ or-turned (eqb (bit_at bits (prev_number other)) 1) (eqb (bit_at (1 * 2 ^ n % 256) (prev_number other)) 1) (eqb (prev_number other) (prev_number prev))
    (ap (λ k. eqb (bit_at (1 * 2 ^ k % 256) (prev_number other)) 1) same ∙ (ap (λ m. eqb (bit_at m (prev_number other)) 1) (power-of-prev prev) ∙ bit-one (prev_number prev) (prev_number other)))

-- no member more
pub with-none : (a b wanted : Bool) → wanted ≡ false → b ≡ ((a && wanted) || b)
with-none true b false none = refl
with-none false b false none = refl
with-none a b true none = absurd (cc)

-- the empty set has no byte
pub empty-has : (b : ℕ) → b < 256 → has (record { words = 0 ∷ 0 ∷ 0 ∷ 0 ∷ [] }) b ≡ false
unfolding has
empty-has b below = ap (λ w. eqb (bit_at w (b % 64)) 1) (get_or-replicate 4 (b / 64) 0 0 (omega arith)) ∙ bit-empty (b % 64)

-- the byte of a number
pub same-byte : (n : ℕ) → n < 256 → n % 256 ≡ n
same-byte n low = omega arith

-- one byte more, which is put in where the test says so
module _ (test : ℕ → Bool) (old new : ℕ → Bool) (n : ℕ) (done : (b : ℕ) → b < n → old b ≡ test b) (later : (b : ℕ) → n ≤ b → b < 256 → old b ≡ false) (small : n < 256) where
  abbrev Is : Bool → Type 0
  Is wanted = (b : ℕ) → b < 256 → new b ≡ ((eqb b n && wanted) || old b)

  abbrev Are : Type 0
  Are = ((b : ℕ) → b < n + 1 → new b ≡ test b) × ((b : ℕ) → n + 1 ≤ b → b < 256 → new b ≡ false)

  pub bytes-more : (wanted : Bool) → wanted ≡ test n → Is wanted → Are
  bytes-more wanted is put = (
    λ b low. elim (cases_eq b n) [
      | inl same ↦ put b (omega (arith, low, small)) ∙ (ap (λ t. (t && wanted) || old b) (eq-eqb b n same) ∙ (new-one wanted (old b) (ap old same ∙ later n (omega arith) small) ∙ (is ∙ sym (ap test same))))
      | inr apart ↦ put b (omega (arith, low, small)) ∙ (ap (λ t. (t && wanted) || old b) (ne_eqb b n apart) ∙ done b (omega (arith, low, apart)))
    ],
    λ b from below. put b below ∙ (ap (λ t. (t && wanted) || old b) (ne_eqb b n (λ same. absurd (omega (arith, same, from)))) ∙ later b (omega (arith, from)) below),
  ) where
    new-one : (a o : Bool) → o ≡ false → ((true && a) || o) ≡ a
    new-one true o none = refl
    new-one false o none = none

pub put-one : (old new : ℕ → Bool) (n m : ℕ) (wanted : Bool) → m ≡ n → wanted ≡ true → ((b : ℕ) → b < 256 → new b ≡ (eqb b m || old b)) → (b : ℕ) → b < 256 → new b ≡ ((eqb b n && wanted) || old b)
put-one old new n m wanted same set put b below = put b below ∙ (ap (λ k. eqb b k || old b) same ∙ ap (λ t. t || old b) (both (eqb b n) wanted set)) where
  both : (a w : Bool) → w ≡ true → a ≡ (a && w)
  both true w is = sym is
  both false w is = refl

pub put-none : (old new : ℕ → Bool) (n : ℕ) (wanted : Bool) → wanted ≡ false → ((b : ℕ) → b < 256 → new b ≡ old b) → (b : ℕ) → b < 256 → new b ≡ ((eqb b n && wanted) || old b)
put-none old new n wanted unset same b below = same b below ∙ ap (λ t. t || old b) (neither (eqb b n) wanted unset) where
  neither : (a w : Bool) → w ≡ false → false ≡ (a && w)
  neither true w is = sym is
  neither false w is = refl

-- a row that begins at the start alone fits nowhere behind anything else
pub start-nowhere : (set : PrevSet) (row : List ByteSet) (prev : Prev) (bytes : List ℕ) → ((p : Prev) → has_prev set p ≡ true → p ≡ before.Start) → has_prev set prev ≡ false → FitsNowhere set row prev bytes
start-nowhere set row prev bytes start apart zero within fits = let both : true ≡ false = sym fits.0 ∙ apart in cc
start-nowhere set row prev bytes start apart (suc i) within fits = behind-byte (eqb (get_or bytes i 0) line_feed) (is_word_byte (get_or bytes i 0)) (start _ fits.0) where
  behind-byte : (l x : Bool) → prev_by l x ≡ before.Start → ⊥
  behind-byte true x same = cc
  behind-byte false true same = cc
  behind-byte false false same = cc
