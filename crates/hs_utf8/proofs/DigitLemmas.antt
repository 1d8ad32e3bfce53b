-- Numbers in a row whose digits are all choices of a digit from one range per place.
use Rattle.std.proofs.Common.{◌≡◌, ℕ, zero, suc, ◌+◌, ◌-◌, ◌*◌, ◌/◌, ◌%◌, ◌<◌, ◌≤◌, inl, inr, min, List, [], ◌∷◌, ◌++◌, length, refl, sym, ap, ap₂, subst, ◌∙◌, le_refl, arith, length-append}
use Rattle.std.specs.List.{zip}
use Rattle.std.proofs.lemmas.Bool.{cases_eq}
use Rattle.hs_base.specs.Spans.{IsInRange}
use Rattle.hs_utf8.specs.Runs.{IsChoice, AreChoices}
use Rattle.hs_utf8.specs.Digits.{digit_bytes, AreDigits, IsRunEnd}
use Rattle.hs_utf8.proofs.ChoiceLemmas.{snoc-same, choice-snoc, choice-parts, choice-places, choice-last, zip-snoc}

pub length-digit_bytes : (lead tail c : ℕ) → length (digit_bytes lead tail c) ≡ tail + 1
length-digit_bytes lead zero c = refl
length-digit_bytes lead (suc tail) c =
    omega (arith, length-append (digit_bytes lead tail (c / 64)) ((0x80 + c % 64) ∷ []), length-digit_bytes lead tail (c / 64))

-- numbers with the same bytes are the same
digit_bytes-same : (lead tail c d : ℕ) → digit_bytes lead tail c ≡ digit_bytes lead tail d → c ≡ d
digit_bytes-same lead zero c d same = let e : lead + c ≡ lead + d = cc in omega arith
digit_bytes-same lead (suc tail) c d same =
    let parts = snoc-same (digit_bytes lead tail (c / 64)) (digit_bytes lead tail (d / 64)) (0x80 + c % 64) (0x80 + d % 64) same in
    let front = digit_bytes-same lead tail (c / 64) (d / 64) parts.0 in
    omega (arith, front, parts.1)

digits-one : (tail c : ℕ) → AreDigits tail c c
digits-one zero c = le_refl c
digits-one (suc tail) c = inr (refl, le_refl c)

pub digits-order : (tail first last : ℕ) → AreDigits tail first last → first ≤ last
digits-order zero first last is = is
digits-order (suc tail) first last (inl (low, high, front)) =
    omega (arith, low, high, digits-order tail (first / 64) (last / 64) front)
digits-order (suc tail) first last (inr (same, order)) = order

-- what stands before the last digits
digits-front : (tail first last : ℕ) → AreDigits (suc tail) first last → AreDigits tail (first / 64) (last / 64)
digits-front tail first last (inl (low, high, front)) = front
digits-front tail first last (inr (same, order)) = subst (λ q. AreDigits tail (first / 64) q) same (digits-one tail (first / 64))

-- a number lies between the first and the last where its last digit and what stands before it do
digits-inside : (tail first last c : ℕ) → AreDigits (suc tail) first last → first ≤ c → c ≤ last →
    (first / 64 ≤ c / 64) × (c / 64 ≤ last / 64) × (first % 64 ≤ c % 64) × (c % 64 ≤ last % 64)
digits-inside tail first last c (inl (low, high, front)) above below = (omega arith, omega arith, omega arith, omega arith)
digits-inside tail first last c (inr (same, order)) above below = (omega arith, omega arith, omega arith, omega arith)

digits-between : (tail first last q r : ℕ) → AreDigits (suc tail) first last → first / 64 ≤ q → q ≤ last / 64 →
    first % 64 ≤ r → r ≤ last % 64 → (first ≤ 64 * q + r) × (64 * q + r ≤ last)
digits-between tail first last q r (inl (low, high, front)) a b c d = (omega arith, omega arith)
digits-between tail first last q r (inr (same, order)) a b c d = (omega arith, omega arith)

-- all choices of the bytes before the last, each with all last ones
digits-step : (lead tail first last : ℕ) (places : List (ℕ × ℕ)) → AreDigits (suc tail) first last →
    AreChoices (digit_bytes lead tail) (first / 64) (last / 64) places →
    AreChoices (digit_bytes lead (suc tail)) first last (places ++ (0x80 + first % 64, 0x80 + last % 64) ∷ [])
digits-step lead tail first last places digits front = record { each = each_one; every = every_one }
  where
    range : ℕ × ℕ
    range = (0x80 + first % 64, 0x80 + last % 64)

    each_one : (c : ℕ) → first ≤ c → c ≤ last →
        IsChoice (places ++ (0x80 + first % 64, 0x80 + last % 64) ∷ []) (digit_bytes lead (suc tail) c)
    each_one c low high =
        let (above, below, least, greatest) = digits-inside tail first last c digits low high in
        choice-snoc places (0x80 + first % 64, 0x80 + last % 64) (digit_bytes lead tail (c / 64)) (0x80 + c % 64)
        (front.each (c / 64) above below) (omega arith, omega arith)

    every_one : (text : List ℕ) → IsChoice (places ++ (0x80 + first % 64, 0x80 + last % 64) ∷ []) text →
        (c : ℕ) × (first ≤ c) × (c ≤ last) × (text ≡ digit_bytes lead (suc tail) c)
    every_one text is =
        let parts = choice-last places (0x80 + first % 64, 0x80 + last % 64) text is in
        let (q, low, high, same) = front.every parts.bytes parts.front in
        let r : ℕ = parts.byte - 0x80 in
        let least : 0x80 + first % 64 ≤ parts.byte = parts.last.0 in
        let greatest : parts.byte ≤ 0x80 + last % 64 = parts.last.1 in
        let within = digits-between tail first last q (parts.byte - 0x80) digits low high (omega arith) (omega arith) in
        let before : (64 * q + (parts.byte - 0x80)) / 64 ≡ q = omega arith in
        let behind : 0x80 + (64 * q + (parts.byte - 0x80)) % 64 ≡ parts.byte = omega arith in (
          64 * q + (parts.byte - 0x80),
          within.0,
          within.1,
          parts.is
              ∙ ap₂ (λ bs b. bs ++ b ∷ []) (same ∙ ap (digit_bytes lead tail) (sym before)) (sym behind),
        )

one_byte : (lead first last : ℕ) → AreChoices (digit_bytes lead zero) first last ((lead + first, lead + last) ∷ [])
one_byte lead first last = record {
  each = λ c low high. ((omega arith, omega arith), tt);
  every = one;
}
  where
    one : (text : List ℕ) → IsChoice ((lead + first, lead + last) ∷ []) text →
        (c : ℕ) × (first ≤ c) × (c ≤ last) × (text ≡ digit_bytes lead zero c)
    one [] is = absurd is
    one (b ∷ []) is =
        let low : lead + first ≤ b = is.0.0 in
        let high : b ≤ lead + last = is.0.1 in
        let same : b ≡ lead + (b - lead) = omega arith in
        (b - lead, omega arith, omega arith, ap (λ x. x ∷ []) same)
    one (b ∷ c ∷ text) is = absurd is.1

-- the bytes of such numbers are all choices
pub digits-choices : (lead tail first last : ℕ) → AreDigits tail first last →
    AreChoices (digit_bytes lead tail) first last (zip (digit_bytes lead tail first) (digit_bytes lead tail last))
digits-choices lead zero first last digits = one_byte lead first last
digits-choices lead (suc tail) first last digits =
    let front = digits-choices lead tail (first / 64) (last / 64) (digits-front tail first last digits) in
    let whole = digits-step lead tail first last (zip (digit_bytes lead tail (first / 64)) (digit_bytes lead tail (last / 64))) digits front in
    subst (AreChoices (digit_bytes lead (suc tail)) first last)
    (sym (zip-snoc (digit_bytes lead tail (first / 64)) (digit_bytes lead tail (last / 64)) (0x80 + first % 64) (0x80 + last % 64)
    (length-digit_bytes lead tail (first / 64) ∙ sym (length-digit_bytes lead tail (last / 64)))))
    whole

-- numbers in a row whose bytes are all choices
module _ (lead tail first last : ℕ) (ranges : List (ℕ × ℕ)) (range : ℕ × ℕ)
    (choices : AreChoices (digit_bytes lead (suc tail)) first last (ranges ++ range ∷ [])) where
  parts_of : (c : ℕ) → first ≤ c → c ≤ last → IsChoice ranges (digit_bytes lead tail (c / 64)) × IsInRange (0x80 + c % 64) range
  parts_of c low high =
      choice-parts ranges range (digit_bytes lead tail (c / 64)) (0x80 + c % 64) (choices.each c low high)

  -- what stands before the last digit of one of them and the last digit of another are one of them too
  mixed : (q y : ℕ) → IsChoice ranges (digit_bytes lead tail q) → first ≤ y → y ≤ last →
      (first ≤ 64 * q + y % 64) × (64 * q + y % 64 ≤ last)
  mixed q y front low high =
      let whole = choice-snoc ranges range (digit_bytes lead tail q) (0x80 + y % 64) front (parts_of y low high).1 in
      let (c, above, below, same) = choices.every (digit_bytes lead tail q ++ (0x80 + y % 64) ∷ []) whole in
      let parts = snoc-same (digit_bytes lead tail q) (digit_bytes lead tail (c / 64)) (0x80 + y % 64) (0x80 + c % 64) same in
      let before = digit_bytes-same lead tail q (c / 64) parts.0 in
      let behind : 0x80 + y % 64 ≡ 0x80 + c % 64 = parts.1 in
      (omega arith, omega arith)

  mixed_low : first / 64 < last / 64 → first % 64 ≡ 0
  mixed_low apart =
      let own = parts_of first (le_refl first) (omega arith) in
      let m = mixed (first / 64) (64 * (last / 64)) own.0 (omega arith) (omega arith) in
      let low : first ≤ 64 * (first / 64) + (64 * (last / 64)) % 64 = m.0 in
      omega arith

  mixed_high : first / 64 < last / 64 → last % 64 ≡ 63
  mixed_high apart =
      let own = parts_of last (omega arith) (le_refl last) in
      let m = mixed (last / 64) (64 * (first / 64) + 63) own.0 (omega arith) (omega arith) in
      let high : 64 * (last / 64) + (64 * (first / 64) + 63) % 64 ≤ last = m.1 in
      omega arith

  -- what stands before the last digits is all choices too
  front_choices : first / 64 < last / 64 → AreChoices (digit_bytes lead tail) (first / 64) (last / 64) ranges
  front_choices apart = record {
    each = λ q low high.
        let zero_low = mixed_low apart in
        let own = parts_of (64 * q) (omega arith) (omega arith) in
        let same : (64 * q) / 64 ≡ q = omega arith in
        subst (λ n. IsChoice ranges (digit_bytes lead tail n)) same own.0;
    every = λ text is.
        let last_one = parts_of first (le_refl first) (omega arith) in
        let whole = choice-snoc ranges range text (0x80 + first % 64) is last_one.1 in
        let (c, low, high, same) = choices.every (text ++ (0x80 + first % 64) ∷ []) whole in
        let parts = snoc-same text (digit_bytes lead tail (c / 64)) (0x80 + first % 64) (0x80 + c % 64) same in
        (c / 64, omega arith, omega arith, parts.0);
  }

-- numbers in a row whose bytes are all choices are such numbers
pub choices-digits : (lead tail first last : ℕ) (places : List (ℕ × ℕ)) → first ≤ last →
    AreChoices (digit_bytes lead tail) first last places → AreDigits tail first last
choices-digits lead zero first last places order choices = order
choices-digits lead (suc tail) first last places order choices = elim (cases_eq (first / 64) (last / 64)) [
  | inl same ↦ inr (same, order)
  | inr other ↦
      let apart : first / 64 < last / 64 = omega (arith, other) in
      let (ranges, range, is) = choice-places places (digit_bytes lead tail (first / 64)) (0x80 + first % 64)
      (choices.each first (le_refl first) order) in
      let whole = subst (AreChoices (digit_bytes lead (suc tail)) first last) is choices in
      inl (
        mixed_low lead tail first last ranges range whole apart,
        mixed_high lead tail first last ranges range whole apart,
        choices-digits lead tail (first / 64) (last / 64) ranges (omega arith)
            (front_choices lead tail first last ranges range whole apart),
      )
]

-- the last number, where no digits stand at the end
pub run_end-none : (first end : ℕ) → first ≤ end → IsRunEnd zero first end end
run_end-none first end order = record { digits = order; within = le_refl end; longest = λ other digits below. below }

-- where the last digits can be all of 0 to 63
run_end-full : (tail first end last : ℕ) → first % 64 ≡ 0 → first + 63 ≤ end →
    IsRunEnd tail (first / 64) ((end + 1) / 64 - 1) last → IsRunEnd (suc tail) first end (last * 64 + 63)
run_end-full tail first end last low room inner = record {
  digits =
      let high : (last * 64 + 63) % 64 ≡ 63 = omega arith in
      let front : last ≡ (last * 64 + 63) / 64 = omega arith in
      inl (low, high, subst (AreDigits tail (first / 64)) front inner.digits);
  within = omega (arith, inner.within);
  longest = longest_one;
}
  where
    longest_one : (other : ℕ) → AreDigits (suc tail) first other → other ≤ end → other ≤ last * 64 + 63
    longest_one other (inl (zero_low, high, front)) below =
        let most : other / 64 ≤ last = inner.longest (other / 64) front (omega arith) in omega arith
    longest_one other (inr (same, order)) below =
        let most : first / 64 ≤ last = digits-order tail (first / 64) last inner.digits in omega arith

pub run_end-whole : (tail first end last : ℕ) → (tail ≡ 0 → ⊥) → first % 64 ≡ 0 → first + 63 ≤ end →
    IsRunEnd (tail - 1) (first / 64) ((end + 1) / 64 - 1) last → IsRunEnd tail first end (last * 64 + 63)
run_end-whole tail first end last some low room inner =
    let same : suc (tail - 1) ≡ tail = omega (arith, some) in
    subst (λ n. IsRunEnd n first end (last * 64 + 63)) same (run_end-full (tail - 1) first end last low room inner)

-- where they can't
run_end-rest : (tail first end : ℕ) → first ≤ end → (first % 64 ≡ 0 → first + 63 ≤ end → ⊥) →
    IsRunEnd (suc tail) first end (min end (first / 64 * 64 + 63))
run_end-rest tail first end order no_room = record {
  digits = inr (omega arith, omega arith);
  within = omega arith;
  longest = longest_one;
}
  where
    longest_one : (other : ℕ) → AreDigits (suc tail) first other → other ≤ end → other ≤ min end (first / 64 * 64 + 63)
    longest_one other (inl (zero_low, high, front)) below =
        let most = digits-order tail (first / 64) (other / 64) front in
        absurd (no_room zero_low (omega arith))
    longest_one other (inr (same, order)) below = omega arith

pub run_end-part : (tail first end : ℕ) → (tail ≡ 0 → ⊥) → first ≤ end → (first % 64 ≡ 0 → first + 63 ≤ end → ⊥) →
    IsRunEnd tail first end (min end (first / 64 * 64 + 63))
run_end-part tail first end some order no_room =
    let same : suc (tail - 1) ≡ tail = omega (arith, some) in
    subst (λ n. IsRunEnd n first end (min end (first / 64 * 64 + 63))) same (run_end-rest (tail - 1) first end order no_room)
