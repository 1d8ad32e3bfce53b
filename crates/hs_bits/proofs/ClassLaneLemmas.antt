-- The classes of sixteen bytes, by the bits of masks of lanes.
use Rattle.std.proofs.Common.{◌≡◌, ℕ, ◌+◌, ◌-◌, ◌*◌, ◌%◌, ◌^◌, ◌<◌, ◌≤◌, Bool, true, false, nat_lt, ◌&&◌, ◌||◌, List, length, get_or, map, cond, eqb, bit_or, refl, sym, ap, ◌∙◌, inl, inr, arith, w8, Fits}
use Rattle.std.specs.Prelude.{nat_le}
use Rattle.std.specs.Int.{bit_at}
use Rattle.std.specs.Simd.Lanes.{chunk, mask_l, top, Each1}
use Rattle.std.proofs.lemmas.Bool.{agree_below, agree_below_at, cases_lt, lt-leb, le-leb}
use Rattle.std.proofs.lemmas.List.{length-map, get_or-map, get_or_past}
use Rattle.std.proofs.lemmas.Nat.Bits.{bit_at_above}
use Rattle.std.proofs.lemmas.Simd.{map-map, mask_l-mod, bit_mask_l, get_or-chunk, Each1-get_or}
use Rattle.hs_base.specs.declared.context.Next.{Next}
use Rattle.hs_base.specs.declared.context.Next.TheVariants as after
use Rattle.hs_base.specs.Contexts.{class_of, next_number}
use Rattle.hs_bits.proofs.WordLemmas.{or-none}
use Rattle.hs_bits.specs.declared.contexts.Classes.{Classes}
use Rattle.hs_bits.specs.WordBits.{word_bit}
use Rattle.hs_bits.specs.BlockContexts.{is_class, AreClasses}
use Rattle.hs_bits.proofs.PlaceLemmas.{bit-either, bit-up, less-is, not-less}

bit-of-truth : (b : Bool) → eqb (cond b 1 0) 1 ≡ b
bit-of-truth true = refl
bit-of-truth false = refl

-- the bits of lanes that were computed byte by byte tell a class, where they do so for each byte
pub lane-class : (class : Next) (lanes z : List ℕ) (f : ℕ → ℕ) → length lanes ≡ 16 → Each1 (Fits w8) lanes → z ≡ map f lanes →
    agree_below (λ b. top 7 (f b)) (λ b. eqb (next_number (class_of b)) (next_number class)) 256 ≡ true → (i : ℕ) → word_bit (mask_l (map (top 7) z) % 2 ^ 64) i ≡ (nat_lt i 16 && is_class class lanes i)
unfolding word_bit
lane-class class lanes z f long fits is agree i =
    let test : ℕ → Bool = λ b. top 7 (f b) in
    let mask : mask_l (map (top 7) z) % 2 ^ 64 ≡ mask_l (map test lanes) =
    ap (λ l. mask_l l % 2 ^ 64) (ap (map (top 7)) is ∙ map-map (top 7) f lanes) ∙ mask_l-mod (map test lanes) 64 (omega (arith, length-map lanes test, long)) in
    let bit : eqb (bit_at (mask_l (map (top 7) z) % 2 ^ 64) i) 1 ≡ get_or (map test lanes) i false =
    ap (λ n. eqb (bit_at n i) 1) mask ∙ (ap (λ n. eqb n 1) (bit_mask_l (map test lanes) i) ∙ bit-of-truth (get_or (map test lanes) i false)) in
    elim (cases_lt i 16) [
      | inl below ↦
          let within : i < length lanes = omega (arith, long) in
          bit
          ∙ (get_or-map test lanes i 0 false within
          ∙ (agree_below_at test (λ b. eqb (next_number (class_of b)) (next_number class)) 256 (get_or lanes i 0) agree (Each1-get_or (Fits w8) lanes i 0 within fits).fits
          ∙ sym (ap (λ t. t && is_class class lanes i) (less-is i 16 below))))
      | inr above ↦
          bit ∙ (get_or_past (map test lanes) i false (omega (arith, length-map lanes test, long)) ∙ sym (ap (λ t. t && is_class class lanes i) (not-less i 16 above)))
    ]

-- sixteen places more

first-part : (a b x y : Bool) → a ≡ x → b ≡ false → x ≡ y → (a || b) ≡ y
first-part a b x y is none same = ap (λ t. t || b) is ∙ (ap (λ t. x || t) none ∙ (or-none x ∙ same))

second-part : (a b y : Bool) → a ≡ false → b ≡ y → (a || b) ≡ y
second-part a b y none is = ap (λ t. t || b) none ∙ is

bit-past : (n i : ℕ) → 64 ≤ i → word_bit (n % 18446744073709551616) i ≡ false
unfolding word_bit
bit-past n i above = ap (λ b. eqb b 1) (bit_at_above (n % 18446744073709551616) 64 i (omega arith) above)

none-there : (d i : ℕ) (b : Bool) → i < d → (nat_le d i && b) ≡ false
none-there d i b low = ap (λ t. t && b) (lt-leb d i low)

moved : (class : Next) (bytes : List ℕ) (place more i : ℕ) → place + 16 ≤ length bytes → length bytes ≤ 64 →
    ((j : ℕ) → word_bit more j ≡ (nat_lt j 16 && is_class class (chunk place 16 bytes) j)) → place ≤ i →
    word_bit (more * 2 ^ place % 18446744073709551616) i ≡ (nat_lt i (place + 16) && is_class class bytes i)
moved class bytes place more i room few lanes high =
    let x : Bool = is_class class bytes i in
    elim (cases_lt i 64) [
      | inl below ↦
          bit-up more place i below
          ∙ (ap (λ t. t && word_bit more (i - place)) (le-leb place i high)
          ∙ (lanes (i - place)
          ∙ elim (cases_lt i (place + 16)) [
            | inl inside ↦
                let at : place + (i - place) ≡ i = omega arith in
                let byte : get_or (chunk place 16 bytes) (i - place) 0 ≡ get_or bytes i 0 = get_or-chunk place 16 bytes (i - place) 0 (omega arith) ∙ ap (λ j. get_or bytes j 0) at in
                ap (λ t. t && is_class class (chunk place 16 bytes) (i - place)) (less-is (i - place) 16 (omega arith))
                ∙ (ap (λ b. eqb (next_number (class_of b)) (next_number class)) byte ∙ sym (ap (λ t. t && x) (less-is i (place + 16) inside)))
            | inr past ↦
                ap (λ t. t && is_class class (chunk place 16 bytes) (i - place)) (not-less (i - place) 16 (omega arith)) ∙ sym (ap (λ t. t && x) (not-less i (place + 16) past))
          ]))
      | inr above ↦ bit-past (more * 2 ^ place) i above ∙ sym (ap (λ t. t && x) (not-less i (place + 16) (omega arith)))
    ]

more-places : (class : Next) (bytes : List ℕ) (place old more i : ℕ) → place + 16 ≤ length bytes → length bytes ≤ 64 →
    ((j : ℕ) → word_bit old j ≡ (nat_lt j place && is_class class bytes j)) → ((j : ℕ) → word_bit more j ≡ (nat_lt j 16 && is_class class (chunk place 16 bytes) j)) →
    word_bit (bit_or old (more * 2 ^ place % 18446744073709551616)) i ≡ (nat_lt i (place + 16) && is_class class bytes i)
more-places class bytes place old more i room few before lanes =
    let up : ℕ = more * 2 ^ place % 18446744073709551616 in
    let x : Bool = is_class class bytes i in
    bit-either old up i
    ∙ elim (cases_lt i place) [
      | inl low ↦
          first-part (word_bit old i) (word_bit up i) (nat_lt i place && x) (nat_lt i (place + 16) && x) (before i)
          (bit-up more place i (omega arith) ∙ none-there place i (word_bit more (i - place)) low)
          (ap (λ t. t && x) (less-is i place low ∙ sym (less-is i (place + 16) (omega arith))))
      | inr high ↦
          second-part (word_bit old i) (word_bit up i) (nat_lt i (place + 16) && x) (before i ∙ ap (λ t. t && x) (not-less i place high)) (moved class bytes place more i room few lanes high)
    ]

pub classes-united : (bytes : List ℕ) (classes more : Classes) (place : ℕ) → place + 16 ≤ length bytes → length bytes ≤ 64 → AreClasses classes bytes place → AreClasses more (chunk place 16 bytes) 16 →
    AreClasses (record {
      words = bit_or classes.words (more.words * 2 ^ place % 18446744073709551616);
      newlines = bit_or classes.newlines (more.newlines * 2 ^ place % 18446744073709551616);
      others = bit_or classes.others (more.others * 2 ^ place % 18446744073709551616);
    }) bytes (place + 16)
classes-united bytes classes more place room few before lanes = record {
  words = λ i. more-places after.Word bytes place classes.words more.words i room few before.words lanes.words;
  newlines = λ i. more-places after.Newline bytes place classes.newlines more.newlines i room few before.newlines lanes.newlines;
  others = λ i. more-places after.Other bytes place classes.others more.others i room few before.others lanes.others;
}
