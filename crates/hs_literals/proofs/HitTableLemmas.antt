-- Tables of hits: what one word, one literal or one end changes.
use Rattle.std.proofs.Common.{◌≡◌, ◌≢◌, ◌⊎◌, ℕ, zero, suc, ◌+◌, ◌-◌, ◌*◌, ◌/◌, ◌%◌, ◌^◌, ◌<◌, ◌≤◌, Bool, true, false, not, ◌&&◌, ◌||◌, List, length, get_or, replicate, eqb, bit_or, refl, sym, ap, ◌∙◌, inl, inr, arith}
use Rattle.std.specs.Prelude.{nat_le, nat_lt, if◌then◌else◌}
use Rattle.std.specs.Int.{bit_at}
use Rattle.std.specs.Slice.Scan.{HoldsNowhere}
use Rattle.std.proofs.lemmas.Bool.{cases_eq, cases_lt, eq-eqb, eqb-true, ne_eqb, false≢true}
use Rattle.std.proofs.lemmas.Bool.Decides.{nat_tests}
use Rattle.std.proofs.lemmas.Nat.Bits.{bit_at-zero, bit_at_above}
use Rattle.hs_base.specs.Bits.{has_word_bit}
use Rattle.hs_bits.proofs.NextLemmas.{word-bit}
use Rattle.hs_bits.proofs.WordLemmas.{or-none}
use Rattle.hs_block.specs.declared.literal.Hits.{Hits}
use Rattle.hs_block.specs.LiteralBlocks.{is_hit}
use Rattle.hs_bits.specs.WordBits.{word_bit}
use Rattle.hs_bits.proofs.PlaceLemmas.{bit-either, bit-shifted, bit-up, less-is, not-less}
use Rattle.hs_literals.specs.HitTables.{HitTable, IsHitTable, AreMarked, IsBlank, AddsHit, Forgets, hit_table, is_hit_at, has_hit}
use Rattle.hs_bits.proofs.MarkLemmas.{zero-marks}

high-bit : (word i : ℕ) → word < 2 ^ 64 → 64 ≤ i → word_bit word i ≡ false
unfolding word_bit
high-bit word i small past = ap (λ n. eqb n 1) (bit_at_above word 64 i small past)

-- two words, one place earlier
pub earlier-bit : (word next i : ℕ) → word < 2 ^ 64 → i < 64 → word_bit (bit_or (word / 2) (next * 2 ^ 63 % 18446744073709551616)) i ≡ (if nat_lt i 63 then word_bit word (i + 1) else word_bit next 0)
earlier-bit word next i small below =
    bit-either (word / 2) (next * 2 ^ 63 % 18446744073709551616) i
    ∙ (ap (λ b. b || word_bit (next * 2 ^ 63 % 18446744073709551616) i) (bit-shifted word 1 i)
    ∙ (ap (λ b. word_bit word (1 + i) || b) (bit-up next 63 i below)
    ∙ elim (cases_lt i 63) [
      | inl inside ↦
          let under : nat_le 63 i ≡ false = grind (arith, nat_tests) in
          let place : 1 + i ≡ i + 1 = omega arith in
          ap (λ b. word_bit word (1 + i) || (b && word_bit next (i - 63))) under
          ∙ (or-none (word_bit word (1 + i)) ∙ (ap (word_bit word) place ∙ sym (ap (λ b. if b then word_bit word (i + 1) else word_bit next 0) (less-is i 63 inside))))
      | inr behind ↦
          let over : nat_le 63 i ≡ true = grind (arith, nat_tests) in
          let none : word_bit word (1 + i) ≡ false = high-bit word (1 + i) small (omega arith) in
          let place : i - 63 ≡ 0 = omega arith in
          ap (λ b. b || (nat_le 63 i && word_bit next (i - 63))) none
          ∙ (ap (λ b. b && word_bit next (i - 63)) over ∙ (ap (word_bit next) place ∙ sym (ap (λ b. if b then word_bit word (i + 1) else word_bit next 0) (not-less i 63 behind))))
    ]))

-- a literal in a block, by two words of its row
pub block-hit : (rows : List ℕ) (number block : ℕ) (hits : Hits) → hits.at_start ≡ word_bit (get_or rows (9 * number + block) 0) 0 →
    ((i : ℕ) → i < 64 → word_bit hits.behind i ≡ (if nat_lt i 63 then word_bit (get_or rows (9 * number + block) 0) (i + 1) else word_bit (get_or rows (9 * number + block + 1) 0) 0)) →
    (i : ℕ) → i ≤ 64 → is_hit hits i ≡ has_word_bit rows (576 * number + (64 * block + i))
unfolding word_bit
block-hit rows number block hits start behind zero below =
    let place : 64 * (9 * number + block) + 0 ≡ 576 * number + (64 * block + 0) = omega arith in
    start ∙ (sym (word-bit rows (9 * number + block) 0 (omega arith)) ∙ ap (has_word_bit rows) place)
block-hit rows number block hits start behind (suc i) below =
    behind i (omega arith)
    ∙ elim (cases_lt i 63) [
      | inl inside ↦
          let place : 64 * (9 * number + block) + (i + 1) ≡ 576 * number + (64 * block + suc i) = omega arith in
          ap (λ b. if b then word_bit (get_or rows (9 * number + block) 0) (i + 1) else word_bit (get_or rows (9 * number + block + 1) 0) 0) (less-is i 63 inside)
          ∙ (sym (word-bit rows (9 * number + block) (i + 1) (omega arith)) ∙ ap (has_word_bit rows) place)
      | inr last ↦
          let place : 64 * (9 * number + block + 1) + 0 ≡ 576 * number + (64 * block + suc i) = omega arith in
          ap (λ b. if b then word_bit (get_or rows (9 * number + block) 0) (i + 1) else word_bit (get_or rows (9 * number + block + 1) 0) 0) (not-less i 63 last)
          ∙ (sym (word-bit rows (9 * number + block + 1) 0 (omega arith)) ∙ ap (has_word_bit rows) place)
    ]

-- One end more.

and-false : (a : Bool) → (a && false) ≡ false
and-false true = refl
and-false false = refl

-- a bit of the rows is that of one literal and place
same-bit : (n p number place : ℕ) → p < 576 → place < 576 → eqb (576 * n + p) (576 * number + place) ≡ (eqb n number && eqb p place)
same-bit n p number place low low' =
    elim (cases_eq n number) [
      | inl own ↦ elim (cases_eq p place) [
        | inl here ↦
            let e : 576 * n + p ≡ 576 * number + place = omega arith in
            eq-eqb (576 * n + p) (576 * number + place) e ∙ sym (ap (λ b. b && eqb p place) (eq-eqb n number own) ∙ eq-eqb p place here)
        | inr there ↦
            ne_eqb (576 * n + p) (576 * number + place) (λ e. there (omega arith)) ∙ sym (ap (λ b. eqb n number && b) (ne_eqb p place there) ∙ and-false (eqb n number))
      ]
      | inr other ↦ ne_eqb (576 * n + p) (576 * number + place) (λ e. other (omega arith)) ∙ sym (ap (λ b. b && eqb p place) (ne_eqb n number other))
    ]

pub added : (count : ℕ) (rows marks rows' marks' : List ℕ) (number place : ℕ) → place ≤ 512 → ((k : ℕ) → has_word_bit rows' k ≡ (eqb k (576 * number + place) || has_word_bit rows k)) →
    has_word_bit marks' number ≡ true → ((k : ℕ) → (k ≡ number → ⊥) → has_word_bit marks' k ≡ has_word_bit marks k) → AddsHit (hit_table count rows marks) (hit_table count rows' marks') number place
added count rows marks rows' marks' number place within bits put others = record {
  count = refl;
  places = place-bit;
  numbers = mark-bit;
} where
  place-bit : (n p : ℕ) → is_hit_at (hit_table count rows' marks') n p ≡ ((eqb n number && eqb p place) || is_hit_at (hit_table count rows marks) n p)
  place-bit n p = elim (cases_lt p 576) [
    | inl low ↦
        ap (λ b. b && has_word_bit rows' (576 * n + p)) (less-is p 576 low)
        ∙ (bits (576 * n + p)
        ∙ (ap (λ b. b || has_word_bit rows (576 * n + p)) (same-bit n p number place low (omega arith))
        ∙ sym (ap (λ b. (eqb n number && eqb p place) || (b && has_word_bit rows (576 * n + p))) (less-is p 576 low))))
    | inr high ↦
        let apart : p ≡ place → ⊥ = λ e. omega arith in
        ap (λ b. b && has_word_bit rows' (576 * n + p)) (not-less p 576 high)
        ∙ sym (ap (λ b. (eqb n number && eqb p place) || (b && has_word_bit rows (576 * n + p))) (not-less p 576 high)
        ∙ ap (λ b. (eqb n number && b) || false) (ne_eqb p place apart)
        ∙ ap (λ b. b || false) (and-false (eqb n number)))
  ]

  mark-bit : (n : ℕ) → has_word_bit marks' n ≡ (eqb n number || has_word_bit marks n)
  mark-bit n = elim (cases_eq n number) [
    | inl own ↦ ap (has_word_bit marks') own ∙ (put ∙ sym (ap (λ b. b || has_word_bit marks n) (eq-eqb n number own)))
    | inr other ↦ others n other ∙ sym (ap (λ b. b || has_word_bit marks n) (ne_eqb n number other))
  ]

either-true : (a b : Bool) → (a || b) ≡ true → (a ≡ true) ⊎ (b ≡ true)
either-true true b is = inl refl
either-true false b is = inr is

both-true : (a b : Bool) → (a && b) ≡ true → (a ≡ true) × (b ≡ true)
both-true true b is = (refl, is)
both-true false b is = absurd (false≢true is)

or-true : (a : Bool) → (a || true) ≡ true
or-true true = refl
or-true false = refl

pub table-added : (old new : HitTable) (number place : ℕ) → IsHitTable old → AddsHit old new number place → number < old.count → length new.rows ≡ length old.rows → length new.marks ≡ length old.marks → IsHitTable new
table-added old new number place table adds below wide wide' = record {
  few = omega (arith, table.few, adds.count);
  room = omega (arith, table.room, adds.count);
  mark_room = omega (arith, table.mark_room, adds.count);
  are_marked = record {
    known = λ n is.
        elim (either-true (eqb n number) (has_hit old n) (sym (adds.numbers n) ∙ is)) [
          | inl own ↦ let e : n ≡ number = eqb-true n number own in omega (arith, adds.count)
          | inr was ↦ omega (arith, table.are_marked.known n was, adds.count)
        ];
    marked = λ n p is.
        adds.numbers n
        ∙ elim (either-true (eqb n number && eqb p place) (is_hit_at old n p) (sym (adds.places n p) ∙ is)) [
          | inl own ↦ ap (λ b. b || has_hit old n) (both-true (eqb n number) (eqb p place) own).0
          | inr was ↦ ap (λ b. eqb n number || b) (table.are_marked.marked n p was) ∙ or-true (eqb n number)
        ];
  };
}

-- One literal less.

-- the words of the rows of other literals
outside-row : (n p number : ℕ) → p < 576 → (n ≡ number → ⊥) → (nat_le (9 * number) ((576 * n + p) / 64) && nat_lt ((576 * n + p) / 64) (9 * number + 9)) ≡ false
outside-row n p number low other =
    let w : ℕ = (576 * n + p) / 64 in
    elim (cases_lt n number) [
      | inl before ↦
          let under : nat_le (9 * number) w ≡ false = grind (arith, nat_tests) in
          ap (λ b. b && nat_lt w (9 * number + 9)) under
      | inr behind ↦ ap (λ b. nat_le (9 * number) w && b) (not-less w (9 * number + 9) (let apart : n ≢ number = other in omega arith)) ∙ and-false (nat_le (9 * number) w)
    ]

pub forgot : (count : ℕ) (rows marks rows' marks' : List ℕ) (number : ℕ) →
    ((w : ℕ) → get_or rows' w 0 ≡ (if nat_le (9 * number) w && nat_lt w (9 * number + 9) then 0 else get_or rows w 0)) →
    has_word_bit marks' number ≡ false → ((k : ℕ) → (k ≡ number → ⊥) → has_word_bit marks' k ≡ has_word_bit marks k) → Forgets (hit_table count rows marks) (hit_table count rows' marks') number
unfolding has_word_bit
forgot count rows marks rows' marks' number words put others = record {
  count = refl;
  places = place-bit;
  numbers = mark-bit;
} where
  row-bit : (n p : ℕ) → p < 576 → has_word_bit rows' (576 * n + p) ≡ (not (eqb n number) && has_word_bit rows (576 * n + p))
  row-bit n p low =
      let k : ℕ = 576 * n + p in
      let w : ℕ = k / 64 in
      elim (cases_eq n number) [
        | inl own ↦
            let above : nat_le (9 * number) w ≡ true = grind (arith, nat_tests) in
            let under : nat_lt w (9 * number + 9) ≡ true = less-is w (9 * number + 9) (omega arith) in
            ap (λ v. eqb (bit_at v (k % 64)) 1) (words w ∙ ap (λ b. if b && nat_lt w (9 * number + 9) then 0 else get_or rows w 0) above ∙ ap (λ b. if b then 0 else get_or rows w 0) under)
            ∙ (ap (λ v. eqb v 1) (bit_at-zero (k % 64)) ∙ sym (ap (λ b. not b && has_word_bit rows k) (eq-eqb n number own)))
        | inr other ↦
            let outside : (nat_le (9 * number) w && nat_lt w (9 * number + 9)) ≡ false = outside-row n p number low other in
            ap (λ v. eqb (bit_at v (k % 64)) 1) (words w ∙ ap (λ b. if b then 0 else get_or rows w 0) outside)
            ∙ sym (ap (λ b. not b && has_word_bit rows k) (ne_eqb n number other))
      ]

  place-bit : (n p : ℕ) → is_hit_at (hit_table count rows' marks') n p ≡ (not (eqb n number) && is_hit_at (hit_table count rows marks) n p)
  place-bit n p = elim (cases_lt p 576) [
    | inl low ↦
        ap (λ b. b && has_word_bit rows' (576 * n + p)) (less-is p 576 low)
        ∙ (row-bit n p low ∙ sym (ap (λ b. not (eqb n number) && (b && has_word_bit rows (576 * n + p))) (less-is p 576 low)))
    | inr high ↦
        ap (λ b. b && has_word_bit rows' (576 * n + p)) (not-less p 576 high)
        ∙ sym (ap (λ b. not (eqb n number) && (b && has_word_bit rows (576 * n + p))) (not-less p 576 high) ∙ and-false (not (eqb n number)))
  ]

  mark-bit : (n : ℕ) → has_word_bit marks' n ≡ (not (eqb n number) && has_word_bit marks n)
  mark-bit n = elim (cases_eq n number) [
    | inl own ↦ ap (has_word_bit marks') own ∙ (put ∙ sym (ap (λ b. not b && has_word_bit marks n) (eq-eqb n number own)))
    | inr other ↦ others n other ∙ sym (ap (λ b. not b && has_word_bit marks n) (ne_eqb n number other))
  ]

pub table-forgot : (old new : HitTable) (number : ℕ) → IsHitTable old → Forgets old new number → length new.rows ≡ length old.rows → length new.marks ≡ length old.marks → IsHitTable new
table-forgot old new number table forgets wide wide' = record {
  few = omega (arith, table.few, forgets.count);
  room = omega (arith, table.room, forgets.count);
  mark_room = omega (arith, table.mark_room, forgets.count);
  are_marked = record {
    known = λ n is.
        let was = (both-true (not (eqb n number)) (has_hit old n) (sym (forgets.numbers n) ∙ is)).1 in
        omega (arith, table.are_marked.known n was, forgets.count);
    marked = λ n p is.
        let both = both-true (not (eqb n number)) (is_hit_at old n p) (sym (forgets.places n p) ∙ is) in
        forgets.numbers n ∙ (ap (λ b. b && has_hit old n) both.0 ∙ table.are_marked.marked n p both.1);
  };
}

-- No end.

pub blank-rows : (rows marks : List ℕ) (count n : ℕ) → rows ≡ replicate n 0 → ((k : ℕ) → has_word_bit marks k ≡ false) → IsBlank (hit_table count rows marks) count
blank-rows rows marks count n zeros none = record {
  count_is = refl;
  nowhere = λ number place. ap (λ b. nat_lt place 576 && b) (zero-marks rows n zeros (576 * number + place)) ∙ and-false (nat_lt place 576);
  none = none;
}

pub table-blank : (table : HitTable) (count : ℕ) → IsBlank table count → count < 2 ^ 32 → length table.rows ≡ 9 * count → count ≤ 64 * length table.marks → IsHitTable table
table-blank table count blank few wide wide' = record {
  few = omega (arith, blank.count_is);
  room = omega (arith, blank.count_is);
  mark_room = omega (arith, blank.count_is);
  are_marked = record {
    known = λ n is. absurd (false≢true (sym (blank.none n) ∙ is));
    marked = λ n p is. absurd (false≢true (sym (blank.nowhere n p) ∙ is));
  };
}

unset : (b : Bool) → (b ≡ true → ⊥) → b ≡ false
unset true not_set = absurd (not_set refl)
unset false not_set = refl

-- no bit is set where no literal is marked
pub blank-unmarked : (table : HitTable) → AreMarked table → ((n : ℕ) → has_hit table n ≡ false) → IsBlank table table.count
blank-unmarked table are none = record {
  count_is = refl;
  nowhere = λ n p. unset (is_hit_at table n p) (λ is. false≢true (sym (none n) ∙ are.marked n p is));
  none = none;
}

-- One literal after the other is forgotten.

-- none below the next one is marked, and then not that one either
pub none-further : (old new : HitTable) (from number : ℕ) → ((n : ℕ) → n < from → has_hit old n ≡ false) → HoldsNowhere (has_hit old) from number → Forgets old new number → (n : ℕ) → n < number + 1 → has_hit new n ≡ false
none-further old new from number below between forgets n under =
    forgets.numbers n
    ∙ elim (cases_eq n number) [
      | inl own ↦ ap (λ b. not b && has_hit old n) (eq-eqb n number own)
      | inr other ↦
          let before : has_hit old n ≡ false = elim (cases_lt n from) [ inl low ↦ below n low | inr high ↦ between n high (let apart : n ≢ number = other in omega arith) ] in
          ap (λ b. not (eqb n number) && b) before ∙ and-false (not (eqb n number))
    ]

-- none at all is marked
pub none-left : (table : HitTable) (from : ℕ) → AreMarked table → ((n : ℕ) → n < from → has_hit table n ≡ false) → HoldsNowhere (has_hit table) from table.count → (n : ℕ) → has_hit table n ≡ false
none-left table from are below rest n =
    elim (cases_lt n from) [
      | inl low ↦ below n low
      | inr high ↦ elim (cases_lt n table.count) [
        | inl inside ↦ rest n high inside
        | inr outside ↦ unset (has_hit table n) (λ is. let h : n < table.count = are.known n is in absurd (omega arith))
      ]
    ]
