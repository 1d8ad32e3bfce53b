-- Rows that are read across the words of positions at one place.
use Rattle.std.proofs.Common.{◌≡◌, ℕ, ◌+◌, ◌*◌, ◌/◌, ◌%◌, ◌<◌, ◌-◌, Bool, true, false, ◌&&◌, ◌||◌, List, length, get_or, set, eqb, refl, sym, ap, ◌∙◌, inl, inr, arith}
use Rattle.std.specs.Int.{bit_at}
use Rattle.std.proofs.lemmas.Bool.{cases_eq, cases_lt, eq-eqb, ne_eqb}
use Rattle.std.proofs.lemmas.List.{get_or-set_same, get_or-set_other}
use Rattle.hs_base.specs.Bits.{has_word_bit}
use Rattle.hs_bits.specs.LowestBits.{IsLowestBit, AreBitsBehind}
use Rattle.hs_bits.specs.WordBits.{word_bit}
use Rattle.hs_bits.proofs.PlaceLemmas.{bit-none}
use Rattle.hs_bits.proofs.WordLemmas.{and-none, and-true, or-none, words-past}
use Rattle.hs_block.proofs.AnyLemmas.{true-or-false}
use Rattle.hs_block.proofs.PositionWordLemmas.{gone, is-left, row-word, stays}

-- the lowest of the numbers that are left is told
pub column-next : (left place rest : ℕ) → IsLowestBit left place → AreBitsBehind left place rest → (w : ℕ → Bool) (value : Bool) → value ≡ w place → (y : ℕ) (before now all : Bool) → now ≡ ((eqb y place && value) || before) →
    (before || (w y && word_bit left y)) ≡ all → (now || (w y && word_bit rest y)) ≡ all
column-next left place rest low behind w value value_is y before now all now_is whole =
    elim (cases_eq y place) [
      | inl same ↦
          let here : now ≡ (value || before) = now_is ∙ ap (λ b. (b && value) || before) (eq-eqb y place same) in
          let off : word_bit rest y ≡ false = ap (word_bit rest) same ∙ gone (place + 1) left place rest low behind (omega arith) w in
          let on : word_bit left y ≡ true = ap (word_bit left) same ∙ is-left (place + 1) left place rest low behind (omega arith) w in
          let is : value ≡ w y = value_is ∙ ap w (sym same) in
          ap (λ b. now || (w y && b)) off
          ∙ (ap (λ b. now || b) (and-none (w y))
          ∙ (or-none now ∙ (here ∙ (ap (λ b. b || before) is ∙ (turned (w y) before ∙ (ap (λ b. before || b) (sym (and-true (w y))) ∙ (ap (λ b. before || (w y && b)) (sym on) ∙ whole)))))))
      | inr apart ↦
          ap (λ b. b || (w y && word_bit rest y)) (now_is ∙ ap (λ b. (b && value) || before) (ne_eqb y place apart))
          ∙ (ap (λ b. before || (w y && b)) (stays (place + 1) left place rest low behind (omega arith) w y apart) ∙ whole)
    ]
  where
    turned : (a b : Bool) → (a || b) ≡ (b || a)
    turned true true = refl
    turned true false = refl
    turned false true = refl
    turned false false = refl

-- a number that isn't live has no bit
lit-bit : (words live : List ℕ) (x place : ℕ) → ((y : ℕ) → has_word_bit live y ≡ false → get_or words y 0 ≡ 0) → (word_bit (get_or words x 0) place && has_word_bit live x) ≡ word_bit (get_or words x 0) place
lit-bit words live x place dark =
    elim (true-or-false (has_word_bit live x)) [
      | inl on ↦ ap (λ b. word_bit (get_or words x 0) place && b) on ∙ and-true (word_bit (get_or words x 0) place)
      | inr off ↦
          let unset : word_bit (get_or words x 0) place ≡ false = ap (λ w. word_bit w place) (dark x off) ∙ bit-none place in
          ap (λ b. b && has_word_bit live x) unset ∙ sym unset
    ]

other-word : (row : List ℕ) (p w x : ℕ) → x < 64 * p → has_word_bit (set row p w) x ≡ has_word_bit row x
unfolding has_word_bit
other-word row p w x below = ap (λ n. eqb (bit_at n (x % 64)) 1) (get_or-set_other row p (x / 64) w 0 (λ e. absurd (omega (arith, e, below))))

this-word : (row : List ℕ) (p w y : ℕ) → y < 64 → p < length row → has_word_bit (set row p w) (64 * p + y) ≡ word_bit w y
this-word row p w y small below = row-word (set row p w) p y small ∙ ap (λ n. word_bit n y) (get_or-set_same row p w 0 below)

-- one word more of the row
pub column-part : (row live words some : List ℕ) (p w place : ℕ) → p < length row → ((y : ℕ) → y < 64 → get_or some y 0 ≡ get_or words (64 * p + y) 0) → ((y : ℕ) → has_word_bit live y ≡ false → get_or words y 0 ≡ 0) →
    ((y : ℕ) → y < 64 → word_bit w y ≡ (word_bit (get_or some y 0) place && word_bit (get_or live p 0) y)) → ((x : ℕ) → x < 64 * p → has_word_bit row x ≡ word_bit (get_or words x 0) place) →
    (x : ℕ) → x < 64 * (p + 1) → has_word_bit (set row p w) x ≡ word_bit (get_or words x 0) place
column-part row live words some p w place below are dark word_is known x inside =
    elim (cases_lt x (64 * p)) [
      | inl before ↦ other-word row p w x before ∙ known x before
      | inr behind ↦
          let y : ℕ = x - 64 * p in
          let small : y < 64 = omega (arith, inside, behind) in
          let at : 64 * p + y ≡ x = omega (arith, behind) in
          ap (has_word_bit (set row p w)) (sym at)
          ∙ (this-word row p w y small below
          ∙ (word_is y small
          ∙ (ap (λ n. word_bit n place && word_bit (get_or live p 0) y) (are y small)
          ∙ (ap (λ b. word_bit (get_or words (64 * p + y) 0) place && b) (sym (row-word live p y small))
          ∙ (lit-bit words live (64 * p + y) place dark ∙ ap (λ k. word_bit (get_or words k 0) place) at)))))
    ]

-- all of them
pub column-all : (row live words : List ℕ) (place : ℕ) → length row ≡ length live → ((y : ℕ) → has_word_bit live y ≡ false → get_or words y 0 ≡ 0) → ((x : ℕ) → x < 64 * length row → has_word_bit row x ≡ word_bit (get_or words x 0) place) →
    (x : ℕ) → has_word_bit row x ≡ word_bit (get_or words x 0) place
column-all row live words place same dark known x =
    elim (cases_lt x (64 * length row)) [
      | inl below ↦ known x below
      | inr past ↦ words-past row x past ∙ sym (ap (λ w. word_bit w place) (dark x (words-past live x (omega (arith, past, same)))) ∙ bit-none place)
    ]
