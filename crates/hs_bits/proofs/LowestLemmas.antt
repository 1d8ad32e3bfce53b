-- The lowest bit of a word, and the word without it.
use Rattle.std.proofs.Common.{◌≡◌, ◌≢◌, ℕ, zero, suc, ◌-◌, ◌/◌, ◌%◌, ◌^◌, ◌<◌, bit_and, sym, ap, ◌∙◌, arith, inl, inr, w64}
use Rattle.std.specs.Int.{bit_at}
use Rattle.std.specs.Int.Count.{count_trailing_zeros}
use Rattle.std.proofs.lemmas.Bool.{cases_lt, cases_eq}
use Rattle.std.proofs.lemmas.Nat.{and_le_r}
use Rattle.std.proofs.lemmas.Nat.Bits.{bit_at_lowest, bit_at-suc, bit_at-zero, bit_at-lt, bit_at_and, bit_at-trailing_zeros}
use Rattle.hs_bits.specs.LowestBits.{IsLowestBit, AreBitsBehind}

pub lowest-is : (word : ℕ) → word ≢ 0 → word < 2 ^ 64 → IsLowestBit word (count_trailing_zeros 64 word)
lowest-is word some fits =
    let known = bit_at-trailing_zeros w64 word (omega arith) fits in
    record { is = known.1; lowest = known.2 }

-- taking 1 off turns the lowest 1 to 0, and leaves the bits above it
one-off : (place n : ℕ) → IsLowestBit n place → (bit_at (n - 1) place ≡ 0) × ((i : ℕ) → place < i → bit_at (n - 1) i ≡ bit_at n i)
one-off zero n low =
    let odd : n % 2 ≡ 1 = sym (bit_at_lowest n) ∙ low.is in
    let half : (n - 1) / 2 ≡ n / 2 = omega arith in
    let even : (n - 1) % 2 ≡ 0 = omega arith in
    (bit_at_lowest (n - 1) ∙ even, λ i above. above-odd n half i above)
  where
    above-odd : (n : ℕ) → (n - 1) / 2 ≡ n / 2 → (i : ℕ) → 0 < i → bit_at (n - 1) i ≡ bit_at n i
    above-odd n half zero above = absurd (omega arith)
    above-odd n half (suc i) above = bit_at-suc (n - 1) i ∙ ap (λ m. bit_at m i) half ∙ sym (bit_at-suc n i)
one-off (suc place) n low =
    let even : n % 2 ≡ 0 = sym (bit_at_lowest n) ∙ low.lowest 0 (omega arith) in
    let is : bit_at (n / 2) place ≡ 1 = sym (bit_at-suc n place) ∙ low.is in
    let inner : IsLowestBit (n / 2) place = record { is = is; lowest = λ i below. sym (bit_at-suc n i) ∙ low.lowest (suc i) (omega arith) } in
    let some : n / 2 ≢ 0 = λ none. omega (arith, is, ap (λ m. bit_at m place) none, bit_at-zero place) in
    let half : (n - 1) / 2 ≡ n / 2 - 1 = omega arith in
    let rest = one-off place (n / 2) inner in
    (bit_at-suc (n - 1) place ∙ ap (λ m. bit_at m place) half ∙ rest.0, λ i above. above-even n place half rest.1 i above)
  where
    above-even : (n place : ℕ) → (n - 1) / 2 ≡ n / 2 - 1 → ((i : ℕ) → place < i → bit_at (n / 2 - 1) i ≡ bit_at (n / 2) i) → (i : ℕ) → suc place < i → bit_at (n - 1) i ≡ bit_at n i
    above-even n place half rest zero above = absurd (omega arith)
    above-even n place half rest (suc i) above = bit_at-suc (n - 1) i ∙ ap (λ m. bit_at m i) half ∙ rest i (omega arith) ∙ sym (bit_at-suc n i)

-- a number and the one before it have in common what stands above the lowest 1
pub behind-lowest : (word place : ℕ) → IsLowestBit word place → AreBitsBehind word place (bit_and word (word - 1))
behind-lowest word place low i =
    let both = bit_at_and word (word - 1) i in
    let off = one-off place word low in (
      λ set. elim (cases_lt place i) [
        | inl above ↦ (above, omega (arith, set, both, bit_at-lt word i))
        | inr below ↦ elim (cases_eq i place) [
          | inl same ↦ absurd (omega (arith, set, both, ap (λ k. bit_at (word - 1) k) same, off.0))
          | inr apart ↦ absurd (omega (arith, set, both, low.lowest i (omega arith)))
        ]
      ],
      λ behind. omega (arith, both, behind.1, off.1 i behind.0),
    )

pub fewer-behind : (word : ℕ) → word ≢ 0 → bit_and word (word - 1) < word
fewer-behind word some = omega (arith, and_le_r word (word - 1), some)

-- the lowest bit is gone, and the others stay
pub lowest-gone : (word place rest : ℕ) → AreBitsBehind word place rest → bit_at rest place ≡ 0
lowest-gone word place rest behind =
    elim (cases_eq (bit_at rest place) 1) [
      | inl set ↦ absurd (let (above, _) = (behind place).0 set in omega arith)
      | inr unset ↦ omega (arith, bit_at-lt rest place)
    ]

pub others-stay : (word place rest : ℕ) → IsLowestBit word place → AreBitsBehind word place rest → (i : ℕ) → i ≢ place → bit_at rest i ≡ bit_at word i
others-stay word place rest low behind i apart =
    elim (cases_eq (bit_at rest i) 1) [
      | inl set ↦ let (_, is) = (behind i).0 set in omega arith
      | inr unset ↦
          elim (cases_lt i place) [
            | inl before ↦ omega (arith, bit_at-lt rest i, low.lowest i before)
            | inr above ↦
                elim (cases_eq (bit_at word i) 1) [
                  | inl is ↦ absurd (unset ((behind i).1 (omega arith, is)))
                  | inr none ↦ omega (arith, bit_at-lt rest i, bit_at-lt word i)
                ]
          ]
    ]
