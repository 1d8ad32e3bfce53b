-- The nearest distance over a block, place by place, and what words say of it.
use Rattle.std.proofs.Common.{◌≡◌, ◌≢◌, ℕ, zero, suc, ◌+◌, ◌-◌, ◌<◌, ◌≤◌, Bool, true, false, ◌&&◌, ◌||◌, not, eqb, refl, sym, ap, subst, ◌∙◌, inl, inr, arith}
use Rattle.std.specs.Prelude.{nat_le, nat_lt}
use Rattle.std.proofs.lemmas.Bool.{cases_eq, cases_lt, ne_eqb, lt-ltb, le-ltb}
use Rattle.std.proofs.lemmas.Bool.Decides.{nat_tests}
use Rattle.hs_bits.proofs.PlaceLemmas.{less-is, not-less}
use Rattle.hs_repeat.specs.RepeatBlocks.{GoesOnOver, IsLastPlace, distance_behind}

-- the distance behind a byte, case by case

pub behind-outside : (bound d : ℕ) (enters inside : Bool) → inside ≡ false → distance_behind bound d enters inside ≡ 0
behind-outside bound d enters inside out = ap (distance_behind bound d enters) out

pub behind-entered : (bound d : ℕ) (enters inside : Bool) → inside ≡ true → enters ≡ true → distance_behind bound d enters inside ≡ 1
behind-entered bound d enters inside is entered = ap (distance_behind bound d enters) is ∙ ap (λ e. distance_behind bound d e true) entered

-- no entry is made before the byte
behind-older : (bound d : ℕ) (enters inside : Bool) → inside ≡ true → enters ≡ false → distance_behind bound d enters inside ≡ distance_behind bound d false true
behind-older bound d enters inside is entered = ap (distance_behind bound d enters) is ∙ ap (λ e. distance_behind bound d e true) entered

pub behind-none : (bound d : ℕ) (enters inside : Bool) → inside ≡ true → enters ≡ false → d ≡ 0 → distance_behind bound d enters inside ≡ 0
behind-none bound d enters inside is entered zero_is = behind-older bound d enters inside is entered ∙ ap (λ x. distance_behind bound x false true) zero_is

pub behind-farther : (bound d : ℕ) (enters inside : Bool) → inside ≡ true → enters ≡ false → 0 < d → d < bound → distance_behind bound d enters inside ≡ d + 1
behind-farther bound d enters inside is entered some below =
    behind-older bound d enters inside is entered
    ∙ (rw (ne_eqb d 0 (λ e. absurd (omega arith)), lt-ltb d bound below) refl)

pub behind-lost : (bound d : ℕ) (enters inside : Bool) → inside ≡ true → enters ≡ false → bound ≤ d → distance_behind bound d enters inside ≡ 0
behind-lost bound d enters inside is entered full =
    behind-older bound d enters inside is entered
    ∙ elim (cases_eq d 0) [
      | inl none_ ↦ ap (λ x. distance_behind bound x false true) none_
      | inr some ↦ rw (ne_eqb d 0 some, le-ltb d bound full) refl
    ]

-- it stays within the bound, and grows by one at most
pub behind-within : (bound d : ℕ) (enters inside : Bool) → 0 < bound → (distance_behind bound d enters inside ≤ bound) × (distance_behind bound d enters inside ≤ d + 1)
behind-within bound d enters false some = (omega arith, omega arith)
behind-within bound d true true some = (omega arith, omega arith)
behind-within bound d false true some =
    elim (cases_eq d 0) [
      | inl none_ ↦ let e : distance_behind bound d false true ≡ 0 = behind-none bound d false true refl refl none_ in (omega arith, omega arith)
      | inr there ↦
          elim (cases_lt d bound) [
            | inl below ↦
                let e : distance_behind bound d false true ≡ d + 1 = behind-farther bound d false true refl refl (omega arith) below in
                (omega arith, omega arith)
            | inr full ↦
                let e : distance_behind bound d false true ≡ 0 = behind-lost bound d false true refl refl full in
                (omega arith, omega arith)
          ]
    ]

-- Before the place i the distance is that of the last entry in the block, if the place before is reached from one; or
-- else that of what lived before the block, as long as it goes on.
pub data HasWalked (enters : ℕ → Bool) (old count i : ℕ) (reached : Bool) (d : ℕ) : Type 0 where
  newer : reached ≡ true → (place : ℕ) → place + d ≡ i → IsLastPlace enters i place → HasWalked enters old count i reached d
  older : reached ≡ false → i ≤ count → d ≡ old + i → HasWalked enters old count i reached d
  gone : reached ≡ false → count < i → d ≡ 0 → HasWalked enters old count i reached d

module _ (bound old count : ℕ) (inside enters : ℕ → Bool) (long : 64 ≤ bound) (kept : GoesOnOver bound old inside count) where
  last-here : (i : ℕ) → enters i ≡ true → IsLastPlace enters (i + 1) i
  last-here i entered = record {
    before = omega arith;
    passes = entered;
    rest = λ j above below. absurd (omega arith);
  }

  last-later : (i place : ℕ) → enters i ≡ false → IsLastPlace enters i place → IsLastPlace enters (i + 1) place
  last-later i place out last =
      let before : place < i = last.before in
      record {
        before = omega arith;
        passes = last.passes;
        rest = λ j above below.
            elim (cases_eq j i) [
              | inl same ↦ ap enters same ∙ out
              | inr apart ↦ last.rest j above (omega arith)
            ];
      }

  -- no entry is made at the place
  older-step : (i d : ℕ) (reached now : Bool) → i < 64 → inside i ≡ true → enters i ≡ false → now ≡ reached → HasWalked enters old count i reached d →
      HasWalked enters old count (i + 1) now (distance_behind bound d (enters i) (inside i))
  older-step i d reached now below is out same (newer on place sum last) =
      let before : place < i = last.before in
      let e : distance_behind bound d (enters i) (inside i) ≡ d + 1 = behind-farther bound d (enters i) (inside i) is out (omega arith) (omega arith) in
      newer (same ∙ on) place (omega arith) (last-later i place out last)
  older-step i d reached now below is out same (older off low far) =
      elim (cases_eq old 0) [
        | inl none_ ↦
            let short : count ≡ 0 = kept.rests none_ in
            gone (same ∙ off) (omega arith) (behind-none bound d (enters i) (inside i) is out (omega arith))
        | inr some ↦
            elim (cases_lt d bound) [
              | inl near ↦
                  let e : distance_behind bound d (enters i) (inside i) ≡ d + 1 = behind-farther bound d (enters i) (inside i) is out (omega arith) near in
                  elim (cases_eq i count) [
                    | inl ends ↦
                        let off_ : inside count ≡ false = kept.ends some (omega arith) (omega arith) in
                        absurd (let f : true ≡ false = sym is ∙ (ap inside ends ∙ off_) in cc)
                    | inr apart ↦ older (same ∙ off) (omega arith) (omega arith)
                  ]
              | inr full ↦
                  let within : old + count ≤ bound = kept.within in
                  gone (same ∙ off) (omega arith) (behind-lost bound d (enters i) (inside i) is out full)
            ]
      ]
  older-step i d reached now below is out same (gone off high none_) = gone (same ∙ off) (omega arith) (behind-none bound d (enters i) (inside i) is out none_)

  one-step : (i d : ℕ) (reached now in_set entering : Bool) → i < 64 → inside i ≡ in_set → enters i ≡ entering → now ≡ (in_set && (entering || reached)) →
      HasWalked enters old count i reached d → HasWalked enters old count (i + 1) now (distance_behind bound d (enters i) (inside i))
  one-step i d reached now false entering below in_is enters_is next walked =
      elim (cases_lt i count) [
        | inl low ↦ absurd (let f : true ≡ false = sym (kept.members i low) ∙ in_is in cc)
        | inr high ↦ gone next (omega arith) (behind-outside bound d (enters i) (inside i) in_is)
      ]
  one-step i d reached now true true below in_is enters_is next walked =
      let e : distance_behind bound d (enters i) (inside i) ≡ 1 = behind-entered bound d (enters i) (inside i) in_is enters_is in
      newer next i (omega arith) (last-here i enters_is)
  one-step i d reached now true false below in_is enters_is next walked = older-step i d reached now below in_is enters_is next walked

  -- the distance before each place
  abbrev pub walk : ℕ → ℕ
  walk zero = old
  walk (suc i) = distance_behind bound (walk i) (enters i) (inside i)

  pub walk-more : (i : ℕ) → walk (i + 1) ≡ distance_behind bound (walk i) (enters i) (inside i)
  walk-more i = let e : i + 1 ≡ suc i = omega arith in ap walk e

  pub walk-within : (i : ℕ) → walk i ≤ bound
  walk-within zero = let within : old + count ≤ bound = kept.within in omega arith
  walk-within (suc i) = (behind-within bound (walk i) (enters i) (inside i) (omega arith)).0

  module _ (reached : ℕ → Bool) (are : (i : ℕ) → i < 64 → reached i ≡ (inside i && (enters i || (nat_le 1 i && reached (i - 1))))) where
    pub has-walked : (i : ℕ) → i ≤ 64 → HasWalked enters old count i (nat_le 1 i && reached (i - 1)) (walk i)
    has-walked zero few = older refl (omega arith) (omega arith)
    has-walked (suc i) few =
        let place : suc i - 1 ≡ i = omega arith in
        let there : nat_le 1 (suc i) ≡ true = grind (arith, nat_tests) in
        let now : (nat_le 1 (suc i) && reached (suc i - 1)) ≡ reached i = ap (λ b. b && reached (suc i - 1)) there ∙ ap reached place in
        let e : i + 1 ≡ suc i = omega arith in
        subst (λ k. HasWalked enters old count k (nat_le 1 (suc i) && reached (suc i - 1)) (walk (suc i))) e
        (one-step i (walk i) (nat_le 1 i && reached (i - 1)) (nat_le 1 (suc i) && reached (suc i - 1)) (inside i) (enters i) (omega arith) refl refl (now ∙ are i (omega arith)) (has-walked i (omega arith)))

    -- the same, of the place itself
    pub walked-behind : (i : ℕ) → i < 64 → HasWalked enters old count (i + 1) (reached i) (walk (i + 1))
    walked-behind i below =
        let place : i + 1 - 1 ≡ i = omega arith in
        let there : nat_le 1 (i + 1) ≡ true = grind (arith, nat_tests) in
        let now : (nat_le 1 (i + 1) && reached (i + 1 - 1)) ≡ reached i = ap (λ b. b && reached (i + 1 - 1)) there ∙ ap reached place in
        subst (λ b. HasWalked enters old count (i + 1) b (walk (i + 1))) now (has-walked (i + 1) (omega arith))

    pub left-there : (i : ℕ) → i < 64 → (reached i || nat_lt i count) ≡ not (eqb (walk (i + 1)) 0)
    left-there i below = left-walked i (reached i) (walk (i + 1)) (walked-behind i below)
      where
        left-walked : (i : ℕ) (on : Bool) (d : ℕ) → HasWalked enters old count (i + 1) on d → (on || nat_lt i count) ≡ not (eqb d 0)
        left-walked i on d (newer is place sum last) =
            let before : place < i + 1 = last.before in
            ap (λ b. b || nat_lt i count) is ∙ sym (ap not (ne_eqb d 0 (λ e. absurd (omega arith))))
        left-walked i on d (older off low far) =
            ap (λ b. b || nat_lt i count) off ∙ (less-is i count (omega arith) ∙ sym (ap not (ne_eqb d 0 (λ e. absurd (omega (arith, kept.rests))))))
        left-walked i on d (gone off high none_) =
            ap (λ b. b || nat_lt i count) off ∙ (not-less i count (omega arith) ∙ sym (ap (λ x. not (eqb x 0)) none_))

    pub walked-whole : (behind : ℕ) → (reached 63 ≡ true → (place : ℕ) → IsLastPlace enters 64 place → behind + place ≡ 64) → (reached 63 ≡ false → count ≡ 64 → behind ≡ old + 64) → (reached 63 ≡ false → count ≢ 64 → behind ≡ 0) →
        behind ≡ walk 64
    walked-whole behind on off far =
        elim (walked-behind 63 (omega arith)) [
          | newer is place sum last ↦ let e : behind + place ≡ 64 = on is place last in omega arith
          | older isnt low is ↦ let few : count ≤ 64 = kept.few in off isnt (omega arith) ∙ sym is
          | gone isnt high none_ ↦ far isnt (λ e. absurd (omega arith)) ∙ sym none_
        ]
