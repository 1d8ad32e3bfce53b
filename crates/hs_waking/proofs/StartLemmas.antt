-- The words of a table of starts.
use Rattle.std.proofs.Common.{◌≡◌, ℕ, ◌<◌, ◌≤◌, Bool, true, false, List, [], length, set, if◌then◌else◌, ap, ◌∙◌, arith, ◌/◌, ◌%◌, eqb, inl, inr}
use Rattle.std.specs.Prelude.{nat_le, slice_index, slice_index_or}
use Rattle.std.proofs.lemmas.Bool.{cases_lt, lt-leb, le-leb}
use Rattle.std.proofs.lemmas.List.{get_or-set_same, get_or-set_other}
use Rattle.std.specs.Int.{bit_at}
use Rattle.std.proofs.lemmas.Nat.Bits.{bit_at_ones}
use Rattle.hs_base.specs.Bits.{has_word_bit}
use Rattle.hs_bits.specs.WordBits.{word_bit}
use Rattle.hs_waking.specs.Starts.{start_word, starts_at, told_word}
use Rattle.hs_waking.specs.declared.starts.Starts.{Starts}

-- beyond the count
pub told-past : (count : ℕ) (some : List Bool) (places : List (List ℕ)) (k j : ℕ) → count ≤ k → told_word count some places k j ≡ 18446744073709551615
told-past count some places k j past = ap (λ b. if b then 18446744073709551615 else (if slice_index_or some k false then slice_index (slice_index_or places k []) j else 0)) (le-leb count k past)

-- where there is a place, and where there is none
pub told-there : (count : ℕ) (some : List Bool) (places : List (List ℕ)) (k j : ℕ) → k < count → slice_index_or some k false ≡ true → told_word count some places k j ≡ slice_index (slice_index_or places k []) j
told-there count some places k j below is =
    ap (λ b. if b then 18446744073709551615 else (if slice_index_or some k false then slice_index (slice_index_or places k []) j else 0)) (lt-leb count k below)
    ∙ ap (λ b. if b then slice_index (slice_index_or places k []) j else 0) is

pub told-nowhere : (count : ℕ) (some : List Bool) (places : List (List ℕ)) (k j : ℕ) → k < count → slice_index_or some k false ≡ false → told_word count some places k j ≡ 0
told-nowhere count some places k j below is =
    ap (λ b. if b then 18446744073709551615 else (if slice_index_or some k false then slice_index (slice_index_or places k []) j else 0)) (lt-leb count k below)
    ∙ ap (λ b. if b then slice_index (slice_index_or places k []) j else 0) is

-- what is told of one is its own
module _ (count : ℕ) (some : List Bool) (places : List (List ℕ)) (n : ℕ) (room : count ≤ length some) (room' : count ≤ length places) where
  pub told-own : (own : List ℕ) (j : ℕ) → n < count → told_word count (set some n true) (set places n own) n j ≡ slice_index own j
  told-own own j below =
      told-there count (set some n true) (set places n own) n j below (get_or-set_same some n true false (omega arith))
      ∙ ap (λ ws. slice_index ws j) (get_or-set_same places n own [] (omega arith))

  pub told-none : (j : ℕ) → n < count → told_word count (set some n false) places n j ≡ 0
  told-none j below = told-nowhere count (set some n false) places n j below (get_or-set_same some n false false (omega arith))

  -- and the others stay
  pub told-others : (is : Bool) (own : List ℕ) (k j : ℕ) → (k ≡ n → ⊥) → told_word count (set some n is) (set places n own) k j ≡ told_word count some places k j
  told-others is own k j apart =
      ap (λ b. if nat_le count k then 18446744073709551615 else (if b then slice_index (slice_index_or (set places n own) k []) j else 0)) (get_or-set_other some n k is false apart)
      ∙ ap (λ ws. if nat_le count k then 18446744073709551615 else (if slice_index_or some k false then slice_index ws j else 0)) (get_or-set_other places n k own [] apart)

  pub told-others-none : (is : Bool) (k j : ℕ) → (k ≡ n → ⊥) → told_word count (set some n is) places k j ≡ told_word count some places k j
  told-others-none is k j apart =
      ap (λ b. if nat_le count k then 18446744073709551615 else (if b then slice_index (slice_index_or places k []) j else 0)) (get_or-set_other some n k is false apart)

-- a place that is told of one is a start of it
pub told-starts : (s : Starts) (k : ℕ) (places : List ℕ) → (k < s.count → (j : ℕ) → j < 8 → start_word s k j ≡ slice_index places j) → (p : ℕ) → p < 512 → has_word_bit places p ≡ true → starts_at s k p ≡ true
unfolding start_word word_bit has_word_bit
told-starts s k places told p small set =
    elim (cases_lt k s.count) [
      | inl below ↦ ap (λ w. eqb (bit_at w (p % 64)) 1) (told below (p / 64) (omega arith)) ∙ set
      | inr past ↦
          ap (λ w. eqb (bit_at w (p % 64)) 1) (told-past s.count s.some.items s.places.items k (p / 64) past)
          ∙ ap (λ b. eqb b 1) (bit_at_ones 64 (p % 64) (omega arith))
    ]
