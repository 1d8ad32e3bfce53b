-- A region of which a range is written.
use Rattle.std.proofs.Common.{◌≡◌, ◌⊎◌, ℕ, ◌+◌, ◌-◌, ◌<◌, ◌≤◌, List, ◌++◌, length, get_or, take, drop, slice_range, sym, ap, ◌∙◌, inl, inr, arith, length-append, length-drop}
use Rattle.std.proofs.lemmas.List.{get_or-append_right, get_or_append_left, get_or-take, get_or-drop, length-take-le}
use Rattle.hs_base.proofs.BitLemmas.{same-places}

-- the range has its length
pub range-length : (xs : List ℕ) (from to : ℕ) → from ≤ to → to ≤ length xs → length (slice_range xs from to) ≡ to - from
range-length xs from to order within = length-take-le (to - from) (drop from xs) (omega (arith, length-drop from xs))

pub range-byte : (xs : List ℕ) (from to i : ℕ) → i < to - from → get_or (slice_range xs from to) i 0 ≡ get_or xs (from + i) 0
range-byte xs from to i low = get_or-take (to - from) (drop from xs) i 0 low ∙ get_or-drop from xs i 0

module _ (old part : List ℕ) (a b : ℕ) (order : a ≤ b) (within : b ≤ length old) (wide : length part ≡ b - a) where
  abbrev pub written : List ℕ
  written = take a old ++ (part ++ drop (b - a) (drop a old))

  front-length : length (take a old) ≡ a
  front-length = length-take-le a old (omega arith)

  back-length : length (drop (b - a) (drop a old)) ≡ length old - b
  back-length = omega (arith, length-drop (b - a) (drop a old), length-drop a old)

  pub written-length : length (take a old ++ (part ++ drop (b - a) (drop a old))) ≡ length old
  written-length = omega (arith, length-append (take a old) (part ++ drop (b - a) (drop a old)), length-append part (drop (b - a) (drop a old)), front-length, back-length, wide)

  before-byte : (i : ℕ) → i < a → get_or (take a old ++ (part ++ drop (b - a) (drop a old))) i 0 ≡ get_or old i 0
  before-byte i low = get_or_append_left (take a old) (part ++ drop (b - a) (drop a old)) 0 i (omega (arith, front-length)) ∙ get_or-take a old i 0 low

  within-byte : (i : ℕ) → i < b - a → get_or (take a old ++ (part ++ drop (b - a) (drop a old))) (a + i) 0 ≡ get_or part i 0
  within-byte i low =
      let there : a + i - a ≡ i = omega arith in
      get_or-append_right (take a old) (part ++ drop (b - a) (drop a old)) a (a + i) 0 front-length (omega arith)
      ∙ ap (λ n. get_or (part ++ drop (b - a) (drop a old)) n 0) there ∙ get_or_append_left part (drop (b - a) (drop a old)) 0 i (omega (arith, wide))

  behind-byte : (i : ℕ) → b ≤ i → get_or (take a old ++ (part ++ drop (b - a) (drop a old))) i 0 ≡ get_or old i 0
  behind-byte i high =
      let there : a + (b - a + (i - a - (b - a))) ≡ i = omega arith in
      get_or-append_right (take a old) (part ++ drop (b - a) (drop a old)) a i 0 front-length (omega arith)
      ∙ get_or-append_right part (drop (b - a) (drop a old)) (b - a) (i - a) 0 wide (omega arith)
      ∙ get_or-drop (b - a) (drop a old) (i - a - (b - a)) 0 ∙ get_or-drop a old (b - a + (i - a - (b - a))) 0 ∙ ap (λ n. get_or old n 0) there

  -- every other byte stays
  pub written-outside : (i : ℕ) → (i < a) ⊎ (b ≤ i) → get_or (take a old ++ (part ++ drop (b - a) (drop a old))) i 0 ≡ get_or old i 0
  written-outside i (inl low) = before-byte i low
  written-outside i (inr high) = behind-byte i high

  -- the range is what is written
  pub written-here : slice_range (take a old ++ (part ++ drop (b - a) (drop a old))) a b ≡ part
  written-here =
      let count = range-length (take a old ++ (part ++ drop (b - a) (drop a old))) a b order (omega (arith, written-length)) in
      same-places (slice_range (take a old ++ (part ++ drop (b - a) (drop a old))) a b) part (count ∙ sym wide)
      (λ i low. range-byte (take a old ++ (part ++ drop (b - a) (drop a old))) a b i (omega (arith, count)) ∙ within-byte i (omega (arith, count)))

  -- any range beside it stays
  pub written-beside : (c d : ℕ) → c ≤ d → d ≤ length old → (d ≤ a) ⊎ (b ≤ c) → slice_range (take a old ++ (part ++ drop (b - a) (drop a old))) c d ≡ slice_range old c d
  written-beside c d up fits beside =
      let count = range-length (take a old ++ (part ++ drop (b - a) (drop a old))) c d up (omega (arith, written-length)) in
      let count' = range-length old c d up fits in
      same-places (slice_range (take a old ++ (part ++ drop (b - a) (drop a old))) c d) (slice_range old c d) (count ∙ sym count')
      (λ i low.
      range-byte (take a old ++ (part ++ drop (b - a) (drop a old))) c d i (omega (arith, count))
      ∙ written-outside (c + i) (elim beside [ inl left ↦ inl (omega (arith, count, left)) | inr right ↦ inr (omega (arith, right)) ])
      ∙ sym (range-byte old c d i (omega (arith, count))))
