-- What a block tells of an identifier, place by place, and by words.
use Rattle.std.proofs.Common.{◌≡◌, ◌≢◌, ℕ, zero, suc, ◌-◌, ◌^◌, ◌<◌, ◌≤◌, ◌⊎◌, Bool, true, false, not, ◌||◌, ◌&&◌, eqb, bit_or, refl, sym, ap, ◌∙◌, inl, inr, arith, w64}
use Rattle.std.proofs.lemmas.Bool.{cases_Bool, cases_lt, cases_order, eq-eqb, eqb-true, eqb-false, ne_eqb, and_left, and_right, or_left, or_right, or_parts, both_ways, not_from_true}
use Rattle.std.proofs.lemmas.Nat.Bits.{bit_at-trailing_zeros}
use Rattle.std.specs.Int.Count.{count_trailing_zeros}
use Rattle.hs_base.proofs.ByteSetLemmas.{or-false}
use Rattle.hs_base.specs.Settling.{Kept, Ends, tells_before, tells_behind}
use Rattle.hs_bits.proofs.WordLemmas.{and-true}
use Rattle.hs_bits.specs.LowestBits.{IsLowestBit}
use Rattle.hs_reports.specs.Chunks.{kept_behind, late_at, early_at}
use Rattle.hs_reports.specs.Telling.{AreEndWords, AreTellingWords, IsToldBefore, is_telling}
use Rattle.hs_reports.specs.WordBits.{word_bit, bit_before}
use Rattle.hs_reports.proofs.ChunkLemmas.{quiet-behind}
use Rattle.hs_reports.proofs.WordBitLemmas.{bit-is, bit-or, bit-zero}

-- once a pair is told, it stays told
told-more : (single : Bool) (kept : Kept) (ends : ℕ → Ends) (i : ℕ) → (kept_behind single kept ends i).told ≡ true → (kept_behind single kept ends (suc i)).told ≡ true
told-more single kept ends i told =
    or_left (kept_behind single kept ends i).told
    (tells_before single (kept_behind single kept ends i) (ends i) || tells_behind single (kept_behind single kept ends i) (ends i)) told

told-on : (single : Bool) (kept : Kept) (ends : ℕ → Ends) (i j : ℕ) → i ≤ j → (kept_behind single kept ends i).told ≡ true → (kept_behind single kept ends j).told ≡ true
told-on single kept ends i zero within told = let here : i ≡ 0 = omega arith in ap (λ n. (kept_behind single kept ends n).told) (sym here) ∙ told
told-on single kept ends i (suc j) within told = elim (cases_lt j i) [
  | inl above ↦ let here : suc j ≡ i = omega arith in ap (λ n. (kept_behind single kept ends n).told) here ∙ told
  | inr below ↦ told-more single kept ends j (told-on single kept ends i j below told)
]

-- a pair that a byte decides is told behind it
told-here : (single : Bool) (kept : Kept) (ends : ℕ → Ends) (i : ℕ) → (late_at single kept ends i ≡ true) ⊎ (early_at single kept ends i ≡ true) → (kept_behind single kept ends (suc i)).told ≡ true
told-here single kept ends i (inl late) =
    or_right (kept_behind single kept ends i).told (late_at single kept ends i || early_at single kept ends i)
    (or_left (late_at single kept ends i) (early_at single kept ends i) late)
told-here single kept ends i (inr early) =
    or_right (kept_behind single kept ends i).told (late_at single kept ends i || early_at single kept ends i)
    (or_right (late_at single kept ends i) (early_at single kept ends i) early)

-- an identifier that isn't single

pub words-many : (kept : Kept) (ends : ℕ → Ends) (here : Bool) (before behind late : ℕ) → kept.here ≡ here → AreEndWords ends before behind →
    ((i : ℕ) → i < 64 → word_bit late i ≡ (word_bit before i && not (bit_before here behind i))) → AreTellingWords false kept ends late behind
words-many kept ends here before behind late known are is = record {
  late_is = λ i below. is i below ∙ (ap (λ b. b && not (bit_before here behind i)) (are.before_is i below) ∙ earlier i below);
  early_is = λ i below. are.behind_is i below ∙ sym (and-true (ends i).behind);
}
  where
    earlier : (i : ℕ) → i < 64 → ((ends i).before && not (bit_before here behind i)) ≡ late_at false kept ends i
    earlier zero below = ap (λ b. (ends 0).before && not b) (sym known)
    earlier (suc i) below = ap (λ b. (ends (suc i)).before && not b) (are.behind_is i (omega arith) ∙ sym (and-true (ends i).behind))

-- a single identifier

-- nothing more is told of one that was
pub words-told : (kept : Kept) (ends : ℕ → Ends) → kept.told ≡ true → AreTellingWords true kept ends 0 0
words-told kept ends told = record {
  late_is = λ i below. bit-zero i ∙ sym (late-none i);
  early_is = λ i below. bit-zero i ∙ sym (early-none i);
}
  where
    late-none : (i : ℕ) → late_at true kept ends i ≡ false
    late-none i = and_right (ends i).before (not (kept_behind true kept ends i).told) (not_from_true (kept_behind true kept ends i).told (told-on true kept ends 0 i (omega arith) told))

    early-none : (i : ℕ) → early_at true kept ends i ≡ false
    early-none i =
        and_right (ends i).behind (not ((kept_behind true kept ends i).told || late_at true kept ends i))
        (not_from_true ((kept_behind true kept ends i).told || late_at true kept ends i)
        (or_left (kept_behind true kept ends i).told (late_at true kept ends i) (told-on true kept ends 0 i (omega arith) told)))

pub told-before : (kept : Kept) (ends : ℕ → Ends) (late early n : ℕ) → kept.told ≡ true → AreTellingWords true kept ends late early → IsToldBefore n late early
told-before kept ends late early n told words i above below =
    let nothing = words-told kept ends told in
    (words.late_is i below ∙ (sym (nothing.late_is i below) ∙ bit-zero i), words.early_is i below ∙ (sym (nothing.early_is i below) ∙ bit-zero i))

-- nor of one without an end
pub none-either : (before behind : ℕ) → bit_or before behind ≡ 0 → (i : ℕ) → i < 64 → (word_bit before i ≡ false) × (word_bit behind i ≡ false)
none-either before behind none i below =
    or_parts (word_bit before i) (word_bit behind i) (sym (bit-or before behind i) ∙ (ap (λ w. word_bit w i) none ∙ bit-zero i))

pub words-none : (single : Bool) (kept : Kept) (ends : ℕ → Ends) (before behind : ℕ) → AreEndWords ends before behind → ((i : ℕ) → i < 64 → (word_bit before i ≡ false) × (word_bit behind i ≡ false)) →
    AreTellingWords single kept ends 0 0
words-none single kept ends before behind are none = record {
  late_is = λ i below. bit-zero i ∙ sym (none-left (ends i).before _ (sym (are.before_is i below) ∙ (none i below).0));
  early_is = λ i below. bit-zero i ∙ sym (none-left (ends i).behind _ (sym (are.behind_is i below) ∙ (none i below).1));
}
  where
    none-left : (x y : Bool) → x ≡ false → (x && y) ≡ false
    none-left x y is = and_left x y is

-- the first place about which a match ends
module _ (kept : Kept) (ends : ℕ → Ends) (p : ℕ) (untold : kept.told ≡ false) (quiet : (i : ℕ) → i < p → ((ends i).before ≡ false) × ((ends i).behind ≡ false)) where
  none-yet : (i : ℕ) → i ≤ p → (kept_behind true kept ends i).told ≡ false
  none-yet i within = (quiet-behind true kept ends i (λ j below. quiet j (omega arith))).0 ∙ untold

  late-first : late_at true kept ends p ≡ (ends p).before
  late-first = ap (λ t. (ends p).before && not t) (none-yet p (omega arith)) ∙ and-true (ends p).before

  early-first : early_at true kept ends p ≡ ((ends p).behind && not (ends p).before)
  early-first = ap (λ t. (ends p).behind && not (t || late_at true kept ends p)) (none-yet p (omega arith)) ∙ ap (λ b. (ends p).behind && not b) late-first

  told-first : ((ends p).before || (ends p).behind) ≡ true → (kept_behind true kept ends (suc p)).told ≡ true
  told-first some = elim (cases_Bool (ends p).before) [
    | inl before ↦ told-here true kept ends p (inl (late-first ∙ before))
    | inr none ↦
        told-here true kept ends p
        (inr (early-first ∙ (ap (λ b. (ends p).behind && not b) none ∙ (and-true (ends p).behind ∙ (ap (λ b. b || (ends p).behind) (sym none) ∙ some)))))
  ]

  late-later : ((ends p).before || (ends p).behind) ≡ true → (i : ℕ) → p < i → late_at true kept ends i ≡ false
  late-later some i above =
      and_right (ends i).before (not (kept_behind true kept ends i).told)
      (not_from_true (kept_behind true kept ends i).told (told-on true kept ends (suc p) i above (told-first some)))

  early-later : ((ends p).before || (ends p).behind) ≡ true → (i : ℕ) → p < i → early_at true kept ends i ≡ false
  early-later some i above =
      and_right (ends i).behind (not ((kept_behind true kept ends i).told || late_at true kept ends i))
      (not_from_true ((kept_behind true kept ends i).told || late_at true kept ends i)
      (or_left (kept_behind true kept ends i).told (late_at true kept ends i) (told-on true kept ends (suc p) i above (told-first some))))

  late-earlier : (i : ℕ) → i < p → late_at true kept ends i ≡ false
  late-earlier i below = and_left (ends i).before (not (kept_behind true kept ends i).told) (quiet i below).0

  early-earlier : (i : ℕ) → i < p → early_at true kept ends i ≡ false
  early-earlier i below = and_left (ends i).behind (not ((kept_behind true kept ends i).told || late_at true kept ends i)) (quiet i below).1

  -- by words
  words-first : (before behind late early : ℕ) → p < 64 → AreEndWords ends before behind → ((ends p).before || (ends p).behind) ≡ true →
      ((i : ℕ) → i < 64 → word_bit late i ≡ (word_bit before i && eqb i p)) →
      ((i : ℕ) → i < 64 → word_bit early i ≡ ((word_bit behind i && eqb i p) && not (word_bit before i))) → AreTellingWords true kept ends late early
  words-first before behind late early small are some late-bits early-bits = record {
    late_is = λ i below. late-bits i below ∙ late-is i below;
    early_is = λ i below. early-bits i below ∙ early-is i below;
  }
    where
      late-is : (i : ℕ) → i < 64 → (word_bit before i && eqb i p) ≡ late_at true kept ends i
      late-is i below = elim (cases_order i p) [
        | inl same ↦
            ap (λ b. word_bit before i && b) (eq-eqb i p same)
            ∙ (and-true (word_bit before i) ∙ (are.before_is i below ∙ (ap (λ n. (ends n).before) same ∙ (sym late-first ∙ ap (λ n. late_at true kept ends n) (sym same)))))
        | inr (inl less) ↦ and_right (word_bit before i) (eqb i p) (ne_eqb i p (λ same. omega arith)) ∙ sym (late-earlier i less)
        | inr (inr more) ↦ and_right (word_bit before i) (eqb i p) (ne_eqb i p (λ same. omega arith)) ∙ sym (late-later some i more)
      ]

      apart : (i : ℕ) → (i ≡ p → ⊥) → ((word_bit behind i && eqb i p) && not (word_bit before i)) ≡ false
      apart i other = and_left (word_bit behind i && eqb i p) (not (word_bit before i)) (and_right (word_bit behind i) (eqb i p) (ne_eqb i p other))

      early-is : (i : ℕ) → i < 64 → ((word_bit behind i && eqb i p) && not (word_bit before i)) ≡ early_at true kept ends i
      early-is i below = elim (cases_order i p) [
        | inl same ↦
            ap (λ b. (word_bit behind i && b) && not (word_bit before i)) (eq-eqb i p same)
            ∙ (ap (λ b. b && not (word_bit before i)) (and-true (word_bit behind i))
            ∙ (ap (λ b. b && not (word_bit before i)) (are.behind_is i below)
            ∙ (ap (λ b. (ends i).behind && not b) (are.before_is i below)
            ∙ (ap (λ n. (ends n).behind && not (ends n).before) same ∙ (sym early-first ∙ ap (λ n. early_at true kept ends n) (sym same))))))
        | inr (inl less) ↦ apart i (λ same. omega arith) ∙ sym (early-earlier i less)
        | inr (inr more) ↦ apart i (λ same. omega arith) ∙ sym (early-later some i more)
      ]

-- the lowest bit of two words
pub words-lowest : (kept : Kept) (ends : ℕ → Ends) (before behind late early p : ℕ) → kept.told ≡ false → AreEndWords ends before behind → p < 64 → IsLowestBit (bit_or before behind) p →
    ((i : ℕ) → i < 64 → word_bit late i ≡ (word_bit before i && eqb i p)) →
    ((i : ℕ) → i < 64 → word_bit early i ≡ ((word_bit behind i && eqb i p) && not (word_bit before i))) → AreTellingWords true kept ends late early
words-lowest kept ends before behind late early p untold are small low late-bits early-bits =
    words-first kept ends p untold quiet before behind late early small are some late-bits early-bits
  where
    quiet : (i : ℕ) → i < p → ((ends i).before ≡ false) × ((ends i).behind ≡ false)
    quiet i below =
        let none : word_bit (bit_or before behind) i ≡ false = bit-is (bit_or before behind) i ∙ ap (λ n. eqb n 1) (low.lowest i below) in
        let (left, right) = or_parts (word_bit before i) (word_bit behind i) (sym (bit-or before behind i) ∙ none) in
        (sym (are.before_is i (omega arith)) ∙ left, sym (are.behind_is i (omega arith)) ∙ right)

    some : ((ends p).before || (ends p).behind) ≡ true
    some =
        let is : word_bit (bit_or before behind) p ≡ true = bit-is (bit_or before behind) p ∙ ap (λ n. eqb n 1) low.is in
        ap (λ b. b || (ends p).behind) (sym (are.before_is p small)) ∙ (ap (λ b. word_bit before p || b) (sym (are.behind_is p small)) ∙ (sym (bit-or before behind p) ∙ is))

-- what is known behind the block

told-quiet : (single : Bool) (kept : Kept) (ends : ℕ → Ends) (n : ℕ) → ((i : ℕ) → i < n → (late_at single kept ends i ≡ false) × (early_at single kept ends i ≡ false)) → (kept_behind single kept ends n).told ≡ kept.told
told-quiet single kept ends zero none = refl
told-quiet single kept ends (suc n) none =
    let (late, early) = none n (omega arith) in
    ap (λ t. (kept_behind single kept ends n).told || (t || early_at single kept ends n)) late
    ∙ (ap (λ t. (kept_behind single kept ends n).told || t) early
    ∙ (or-false (kept_behind single kept ends n).told ∙ told-quiet single kept ends n (λ i below. none i (omega arith))))

-- a word that isn't 0 has a bit
some-bit : (word : ℕ) → word ≢ 0 → word < 2 ^ 64 → (p : ℕ) × (p < 64) × (word_bit word p ≡ true)
some-bit word some fits =
    let known = bit_at-trailing_zeros w64 word (omega arith) fits in
    (count_trailing_zeros 64 word, known.0, bit-is word (count_trailing_zeros 64 word) ∙ ap (λ n. eqb n 1) known.1)

module _ (single : Bool) (kept : Kept) (ends : ℕ → Ends) (late early n : ℕ) (within : n ≤ 64) (late-fits : late < 2 ^ 64) (early-fits : early < 2 ^ 64)
    (words : AreTellingWords single kept ends late early) (ends-there : IsToldBefore n late early) where
  inside : (p : ℕ) → p < 64 → (word_bit late p ≡ true) ⊎ (word_bit early p ≡ true) → p < n
  inside p small set = elim (cases_lt p n) [
    | inl below ↦ below
    | inr above ↦ absurd (elim set [
      | inl one ↦ both_ways (word_bit late p) (ends-there p above small).0 one
      | inr one ↦ both_ways (word_bit early p) (ends-there p above small).1 one
    ])
  ]

  told-some : (p : ℕ) → p < 64 → (word_bit late p ≡ true) ⊎ (word_bit early p ≡ true) → (kept_behind single kept ends n).told ≡ true
  told-some p small set =
      told-on single kept ends (suc p) n (inside p small set)
      (told-here single kept ends p (elim set [
        | inl one ↦ inl (sym (words.late_is p small) ∙ one)
        | inr one ↦ inr (sym (words.early_is p small) ∙ one)
      ]))

  told-none : late ≡ 0 → early ≡ 0 → (kept_behind single kept ends n).told ≡ kept.told
  told-none no-late no-early =
      told-quiet single kept ends n (λ i below. (
        sym (words.late_is i (omega arith)) ∙ (ap (λ w. word_bit w i) no-late ∙ bit-zero i),
        sym (words.early_is i (omega arith)) ∙ (ap (λ w. word_bit w i) no-early ∙ bit-zero i),
      ))

  told-words : (kept_behind single kept ends n).told ≡ (kept.told || is_telling late early)
  told-words = elim (cases_Bool (eqb late 0)) [
    | inl no-late ↦ elim (cases_Bool (eqb early 0)) [
      | inl no-early ↦
          told-none (eqb-true late 0 no-late) (eqb-true early 0 no-early)
          ∙ (sym (or-false kept.told)
          ∙ (ap (λ b. kept.told || not (b && true)) (sym no-late) ∙ ap (λ b. kept.told || not (eqb late 0 && b)) (sym no-early)))
      | inr some ↦
          let (p, small, set) = some-bit early (eqb-false early 0 some) early-fits in
          told-some p small (inr set)
          ∙ sym (or_right kept.told (is_telling late early) (ap (λ b. not (eqb late 0 && b)) some ∙ ap (λ b. not b) (and_right (eqb late 0) false refl)))
    ]
    | inr some ↦
        let (p, small, set) = some-bit late (eqb-false late 0 some) late-fits in
        told-some p small (inl set) ∙ sym (or_right kept.told (is_telling late early) (ap (λ b. not (b && eqb early 0)) some))
  ]

here-words : (single : Bool) (kept : Kept) (ends : ℕ → Ends) (late early n : ℕ) → 0 < n → n ≤ 64 → AreTellingWords single kept ends late early → (kept_behind single kept ends n).here ≡ word_bit early (n - 1)
here-words single kept ends late early zero some within words = absurd (omega arith)
here-words single kept ends late early (suc n) some within words =
    let last : suc n - 1 ≡ n = omega arith in
    sym (words.early_is n within) ∙ ap (λ k. word_bit early k) (sym last)

pub words-kept : (single : Bool) (kept : Kept) (ends : ℕ → Ends) (late early n : ℕ) → 0 < n → n ≤ 64 → late < 2 ^ 64 → early < 2 ^ 64 → AreTellingWords single kept ends late early → IsToldBefore n late early →
    ((kept_behind single kept ends n).told ≡ (kept.told || is_telling late early)) × ((kept_behind single kept ends n).here ≡ word_bit early (n - 1))
words-kept single kept ends late early n some within late-fits early-fits words ends-there =
    (told-words single kept ends late early n within late-fits early-fits words ends-there, here-words single kept ends late early n some within words)
