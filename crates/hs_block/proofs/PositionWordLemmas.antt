-- Words of 64 places: united, and rows that meet.
use Rattle.std.proofs.Common.{◌≡◌, ◌≢◌, ◌↔◌, ℕ, ◌+◌, ◌*◌, ◌/◌, ◌%◌, ◌^◌, ◌<◌, ◌≤◌, Bool, true, false, not, ◌&&◌, ◌||◌, List, length, get_or, take, drop, eqb, bit_and, bit_or, refl, sym, ap, ◌∙◌, inl, inr, arith}
use Rattle.std.specs.Int.{bit_at}
use Rattle.std.proofs.lemmas.Bool.{cases_eq, cases_lt, eq-eqb, eqb-true}
use Rattle.std.proofs.lemmas.List.{get_or-take, get_or-drop}
use Rattle.std.proofs.lemmas.Nat.Bits.{bit_at_above}
use Rattle.hs_base.specs.Bits.{has_word_bit}
use Rattle.hs_base.proofs.ContextLemmas.{first_of_both, second_of_both, of_both, of_either, left_of_either, right_of_either}
use Rattle.hs_bits.specs.LowestBits.{IsLowestBit, AreBitsBehind}
use Rattle.hs_bits.proofs.LowestLemmas.{lowest-gone, others-stay}
use Rattle.hs_bits.proofs.WordLemmas.{or-none}
use Rattle.hs_engine.specs.AnyBelow.{any_below}
use Rattle.hs_bits.specs.WordBits.{word_bit}
use Rattle.hs_block.proofs.AnyLemmas.{any-none, any-same, any-some, any-split, none-any, same-truth, some-any, true-false, true-or-false}
use Rattle.hs_bits.proofs.PlaceLemmas.{bit-both, bit-either, bit-none}

-- beyond the end of a word no bit is set
pub past-word : (word k : ℕ) → word < 2 ^ 64 → 64 ≤ k → word_bit word k ≡ false
unfolding word_bit
past-word word k fits past = ap (λ n. eqb n 1) (bit_at_above word 64 k fits past)

pub both-past : (word other k : ℕ) → other < 2 ^ 64 → 64 ≤ k → word_bit (bit_and word other) k ≡ false
both-past word other k fits past = bit-both word other k ∙ (ap (λ b. word_bit word k && b) (past-word other k fits past) ∙ and-false (word_bit word k))
  where
    and-false : (a : Bool) → (a && false) ≡ false
    and-false true = refl
    and-false false = refl

-- the lowest of the numbers that are left is taken

or-grouped : (a b c : Bool) → ((a || b) || c) ≡ (a || (b || c))
or-grouped true b c = refl
or-grouped false b c = refl

module _ (n left place rest : ℕ) (low : IsLowestBit left place) (behind : AreBitsBehind left place rest) (below : place < n) (w : ℕ → Bool) where
  abbrev Left : ℕ → Bool
  Left y = w y && word_bit left y

  abbrev Rest : ℕ → Bool
  Rest y = w y && word_bit rest y

  pub is-left : word_bit left place ≡ true
  unfolding word_bit
  is-left = eq-eqb (bit_at left place) 1 low.is

  pub stays : (y : ℕ) → y ≢ place → word_bit rest y ≡ word_bit left y
  unfolding word_bit
  stays y apart = ap (λ b. eqb b 1) (others-stay left place rest low behind y apart)

  was-left : (y : ℕ) → word_bit rest y ≡ true → word_bit left y ≡ true
  unfolding word_bit
  was-left y is = eq-eqb (bit_at left y) 1 ((behind y).0 (eqb-true (bit_at rest y) 1 is)).1

  taken : any_below n Left ≡ (w place || any_below n Rest)
  taken =
      same-truth (any_below n Left) (w place || any_below n Rest)
      (λ any.
      let (y, inside, is) = any-some n Left any in
      elim (cases_eq y place) [
        | inl same ↦ left_of_either (w place) (any_below n Rest) (ap w (sym same) ∙ first_of_both (w y) (word_bit left y) is)
        | inr apart ↦
            right_of_either (w place) (any_below n Rest)
            (some-any n Rest y inside (of_both (w y) (word_bit rest y) (first_of_both (w y) (word_bit left y) is) (stays y apart ∙ second_of_both (w y) (word_bit left y) is)))
      ])
      (λ either.
      elim (of_either (w place) (any_below n Rest) either) [
        | inl here ↦ some-any n Left place below (of_both (w place) (word_bit left place) here is-left)
        | inr any ↦
            let (y, inside, is) = any-some n Rest any in
            some-any n Left y inside (of_both (w y) (word_bit left y) (first_of_both (w y) (word_bit rest y) is) (was-left y (second_of_both (w y) (word_bit rest y) is)))
      ])

  pub united-more : (old now all : Bool) → now ≡ (old || w place) → (old || any_below n Left) ≡ all → (now || any_below n Rest) ≡ all
  united-more old now all is whole = ap (λ b. b || any_below n Rest) is ∙ (or-grouped old (w place) (any_below n Rest) ∙ (ap (λ b. old || b) (sym taken) ∙ whole))

  pub few-left : ((y : ℕ) → n ≤ y → word_bit left y ≡ false) → (y : ℕ) → n ≤ y → word_bit rest y ≡ false
  few-left few y past = stays y (λ e. absurd (omega arith)) ∙ few y past

  pub gone : word_bit rest place ≡ false
  unfolding word_bit
  gone = ap (λ n. eqb n 1) (lowest-gone left place rest behind)

-- a bit that is set is one of so many
pub lowest-within : (n left place : ℕ) → IsLowestBit left place → ((y : ℕ) → n ≤ y → word_bit left y ≡ false) → place < n
unfolding word_bit
lowest-within n left place low few =
    elim (cases_lt place n) [
      | inl inside ↦ inside
      | inr past ↦ true-false (eqb (bit_at left place) 1) (eq-eqb (bit_at left place) 1 low.is) (few place past)
    ]

pub united-none : (n left : ℕ) (w : ℕ → Bool) → left ≡ 0 → (all : Bool) → (all || any_below n (λ y. w y && word_bit left y)) ≡ all
united-none n left w none_ all =
    ap (λ b. all || b) (any-none n (λ y. w y && word_bit left y) (λ y below. ap (λ l. w y && word_bit l y) none_ ∙ (ap (λ b. w y && b) (bit-none y) ∙ and-false (w y)))) ∙ or-none all
  where
    and-false : (a : Bool) → (a && false) ≡ false
    and-false true = refl
    and-false false = refl

-- rows

pub row-word : (row : List ℕ) (p y : ℕ) → y < 64 → has_word_bit row (64 * p + y) ≡ word_bit (get_or row p 0) y
unfolding has_word_bit word_bit
row-word row p y below =
    let place : (64 * p + y) / 64 ≡ p = omega arith in
    let bit : (64 * p + y) % 64 ≡ y = omega arith in
    ap (λ k. eqb (bit_at (get_or row k 0) ((64 * p + y) % 64)) 1) place ∙ ap (λ k. eqb (bit_at (get_or row p 0) k) 1) bit

-- one word more of two rows
pub united-place : (words row live some : List ℕ) (p i all part : ℕ) → length some ≡ 64 → ((y : ℕ) → y < 64 → get_or some y 0 ≡ get_or words (64 * p + y) 0) →
    word_bit part i ≡ any_below (length some) (λ y. word_bit (get_or some y 0) i && word_bit (bit_and (get_or row p 0) (get_or live p 0)) y) →
    word_bit all i ≡ any_below (64 * p) (λ y. word_bit (get_or words y 0) i && (has_word_bit row y && has_word_bit live y)) →
    word_bit (bit_or all part) i ≡ any_below (64 * (p + 1)) (λ y. word_bit (get_or words y 0) i && (has_word_bit row y && has_word_bit live y))
united-place words row live some p i all part long are part_is all_is =
    let F : ℕ → Bool = λ y. word_bit (get_or words y 0) i && (has_word_bit row y && has_word_bit live y) in
    let G : ℕ → Bool = λ y. word_bit (get_or some y 0) i && word_bit (bit_and (get_or row p 0) (get_or live p 0)) y in
    let more : 64 * p + 64 ≡ 64 * (p + 1) = omega arith in
    bit-either all part i
    ∙ (ap (λ b. b || word_bit part i) all_is
    ∙ (ap (λ b. any_below (64 * p) F || b)
    (part_is
    ∙ (ap (λ n. any_below n G) long
    ∙ any-same 64 G (λ y. F (64 * p + y))
    (λ y below.
    ap (λ w. word_bit w i && word_bit (bit_and (get_or row p 0) (get_or live p 0)) y) (are y below)
    ∙ ap (λ b. word_bit (get_or words (64 * p + y) 0) i && b)
    (bit-both (get_or row p 0) (get_or live p 0) y
    ∙ (ap (λ b. b && word_bit (get_or live p 0) y) (sym (row-word row p y below)) ∙ ap (λ b. has_word_bit row (64 * p + y) && b) (sym (row-word live p y below)))))))
    ∙ (sym (any-split (64 * p) 64 F) ∙ ap (λ n. any_below n F) more)))

pub slice-places : (words : List ℕ) (p y len : ℕ) → y < len → get_or (take len (drop (64 * p) words)) y 0 ≡ get_or words (64 * p + y) 0
slice-places words p y len below = get_or-take len (drop (64 * p) words) y 0 below ∙ get_or-drop (64 * p) words y 0

-- whether two rows meet
pub meet-rows : (apart : Bool) (one other : List ℕ) (size : ℕ) → (apart ≡ true) ↔ ((k : ℕ) → (has_word_bit one k && has_word_bit other k) ≡ false) → ((y : ℕ) → size ≤ y → has_word_bit one y ≡ false) →
    not apart ≡ any_below size (λ y. has_word_bit one y && has_word_bit other y)
meet-rows true one other size is few = sym (any-none size (λ y. has_word_bit one y && has_word_bit other y) (λ y below. is.0 refl y))
meet-rows false one other size is few =
    elim (true-or-false (any_below size (λ y. has_word_bit one y && has_word_bit other y))) [
      | inl on ↦ sym on
      | inr off ↦
          absurd (let e : false ≡ true =
          is.1 (λ k.
          elim (cases_lt k size) [
            | inl below ↦ none-any size (λ y. has_word_bit one y && has_word_bit other y) off k below
            | inr past ↦ ap (λ b. b && has_word_bit other k) (few k past)
          ]) in cc)
    ]
