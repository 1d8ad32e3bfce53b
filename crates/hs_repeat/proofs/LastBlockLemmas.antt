-- A whole block of at most so many bytes of a set, by words.
use Rattle.std.proofs.Common.{◌≡◌, ◌≢◌, ℕ, zero, suc, ◌+◌, ◌-◌, ◌*◌, ◌^◌, ◌<◌, ◌≤◌, Bool, true, false, ◌&&◌, ◌||◌, not, eqb, List, length, get_or, bit_or, w64, refl, sym, ap, ◌∙◌, inl, inr, arith}
use Rattle.std.specs.Prelude.{min, nat_le, nat_lt}
use Rattle.std.specs.Int.{bit_at}
use Rattle.std.proofs.lemmas.Bool.{cases_lt}
use lib.Count.{count_leading_zeros}
use Rattle.std.proofs.lemmas.Nat.{leading_top}
use Rattle.std.proofs.lemmas.Nat.Bits.{bit_at-lt, bit_at_above, bit_at_cat_high, bit_at_not}
use Rattle.std.proofs.Math.Nat.{pow-suc}
use Rattle.hs_base.specs.declared.byte_set.ByteSet.{ByteSet}
use Rattle.hs_base.specs.ByteSets.{has}
use Rattle.hs_base.proofs.ContextSetLemmas.{bit-all}
use Rattle.hs_bits.specs.WordBits.{word_bit}
use Rattle.hs_bits.specs.MemberPlaces.{ArePlacesOf}
use Rattle.hs_bits.proofs.PlaceLemmas.{bit-either, bit-none, member-bit}
use Rattle.hs_bits.proofs.WordLemmas.{and-true}
use Rattle.hs_repeat.specs.RepeatBlocks.{GoesOnOver, IsLastPlace, TakesDistances, distance_behind}
use Rattle.hs_repeat.proofs.LastWalkLemmas.{left-there, walk, walk-more, walk-within, walked-whole}

-- the places outside of the set

other-bit : (b : ℕ) → b < 2 → eqb (1 - b) 1 ≡ not (eqb b 1)
other-bit zero small = refl
other-bit (suc zero) small = refl
other-bit (suc (suc b)) small = absurd (omega arith)

pub not-bit : (word i : ℕ) → word < 2 ^ 64 → i < 64 → word_bit (18446744073709551615 - word) i ≡ not (word_bit word i)
unfolding word_bit
not-bit word i fits below = ap (λ b. eqb b 1) (bit_at_not w64 word i fits below) ∙ other-bit (bit_at word i) (bit_at-lt word i)

not-not : (a b : Bool) → a ≡ not b → a ≡ false → b ≡ true
not-not a true is off = refl
not-not a false is off = absurd (let e : true ≡ false = sym is ∙ off in cc)

not-on : (a b : Bool) → a ≡ not b → a ≡ true → b ≡ false
not-on a true is on = absurd (let e : false ≡ true = sym is ∙ on in cc)
not-on a false is on = refl

pub kept-places : (bound distance class end count : ℕ) → class < 2 ^ 64 → distance ≢ 0 → distance ≤ bound → end ≡ min 64 (bound - distance) → count ≤ end →
    ((i : ℕ) → 0 ≤ i → i < count → word_bit (18446744073709551615 - class) i ≡ false) → (count < end → word_bit (18446744073709551615 - class) count ≡ true) →
    GoesOnOver bound distance (word_bit class) count
kept-places bound distance class end count fits some low end_is few before there = record {
  few = omega arith;
  rests = λ none. absurd (some none);
  within = omega arith;
  members = λ i below. not-not (word_bit (18446744073709551615 - class) i) (word_bit class i) (not-bit class i fits (omega arith)) (before i (omega arith) below);
  ends = λ ahead short more. not-on (word_bit (18446744073709551615 - class) count) (word_bit class count) (not-bit class count fits short) (there (omega arith));
}

-- the last place of a word, counted from its end

pub last-counted : (word place : ℕ) → word < 2 ^ 64 → IsLastPlace (word_bit word) 64 place → count_leading_zeros 64 word + 1 + place ≡ 64
unfolding word_bit
last-counted word place fits last =
    let some : 0 < word = not-zero word (λ none. let e : true ≡ false = sym last.passes ∙ (ap (λ w. word_bit w place) none ∙ bit-none place) in cc) in
    let (top, sum, low, high) = leading_top 64 word some fits in
    elim (cases_lt top place) [
      | inl past ↦
          let off : word_bit word place ≡ false = ap (λ b. eqb b 1) (bit_at_above word (suc top) place high (omega arith)) in
          absurd (let e : true ≡ false = sym last.passes ∙ off in cc)
      | inr within ↦
          elim (cases_lt place top) [
            | inl before ↦
                let on : word_bit word top ≡ true = ap (λ b. eqb b 1) (top-bit word top low high) in
                absurd (let e : true ≡ false = sym on ∙ last.rest top before (omega arith) in cc)
            | inr same ↦ omega arith
          ]
    ]
  where
    not-zero : (n : ℕ) → (n ≡ 0 → ⊥) → 0 < n
    not-zero n some = omega arith

    top-bit : (word top : ℕ) → 2 ^ top ≤ word → word < 2 ^ suc top → bit_at word top ≡ 1
    top-bit word top low high =
        let e : word ≡ 1 * 2 ^ top + (word - 2 ^ top) = omega arith in
        let twice : 2 ^ suc top ≡ 2 ^ top * 2 = pow-suc 2 top in
        let zero_is : top - top ≡ 0 = omega arith in
        ap (λ w. bit_at w top) e ∙ (bit_at_cat_high 1 top (word - 2 ^ top) top (omega arith) (omega arith) ∙ ap (bit_at 1) zero_is)

-- the distances of the block

module _ (set : ByteSet) (bound old enters : ℕ) (bytes : List ℕ) (class reached count : ℕ) (long : 64 ≤ bound) (whole : length bytes ≡ 64) (places : ArePlacesOf (has set) bytes (length bytes) class)
    (word_is : (i : ℕ) → i < 64 → word_bit reached i ≡ (word_bit class i && (word_bit enters i || (nat_le 1 i && (word_bit reached (i - 1) && word_bit 18446744073709551615 i))))) (kept : GoesOnOver bound old (word_bit class) count) where
  always-again : (i : ℕ) → i < 64 → word_bit 18446744073709551615 i ≡ true
  unfolding word_bit
  always-again i below = bit-all 64 i below

  reached-is : (i : ℕ) → i < 64 → word_bit reached i ≡ (word_bit class i && (word_bit enters i || (nat_le 1 i && word_bit reached (i - 1))))
  reached-is i below =
      word_is i below
      ∙ (ap (λ b. word_bit class i && (word_bit enters i || (nat_le 1 i && (word_bit reached (i - 1) && b)))) (always-again i below)
      ∙ ap (λ b. word_bit class i && (word_bit enters i || (nat_le 1 i && b))) (and-true (word_bit reached (i - 1))))

  abbrev Walk : ℕ → ℕ
  Walk = walk bound old count (word_bit class) (word_bit enters) long kept

  module _ (behind : ℕ) (on : word_bit reached 63 ≡ true → (place : ℕ) → IsLastPlace (word_bit enters) 64 place → behind + place ≡ 64) (off : word_bit reached 63 ≡ false → count ≡ 64 → behind ≡ old + 64)
      (far : word_bit reached 63 ≡ false → count ≢ 64 → behind ≡ 0) where
    behind-is : behind ≡ Walk 64
    behind-is =
        walked-whole bound old count (word_bit class) (word_bit enters) long kept (word_bit reached) reached-is behind on off far

    pub behind-fits : behind ≤ bound
    behind-fits = let within : Walk 64 ≤ bound = walk-within bound old count (word_bit class) (word_bit enters) long kept 64 in omega (arith, behind-is)

    pub takes-distances : (new low : ℕ) → new ≡ behind → ((i : ℕ) → word_bit low i ≡ nat_lt i count) → TakesDistances set bound old new enters bytes (bit_or reached low)
    takes-distances new low new_is low_is = record {
      distances = Walk;
      first = refl;
      last = ap Walk whole ∙ (sym behind-is ∙ sym new_is);
      moves = λ i below.
          walk-more bound old count (word_bit class) (word_bit enters) long kept i
          ∙ ap (distance_behind bound (Walk i) (word_bit enters i)) (member-bit class i (length bytes) (has set (get_or bytes i 0)) below (places i));
      left_is = λ i below.
          bit-either reached low i
          ∙ (ap (λ b. word_bit reached i || b) (low_is i)
          ∙ left-there bound old count (word_bit class) (word_bit enters) long kept (word_bit reached) reached-is i (omega arith));
    }
