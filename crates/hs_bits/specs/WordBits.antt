-- Words of 64 bits as lists of truth values and as sets of numbers.
use Rattle.std.specs.Prelude.{◌≡◌, ◌↔◌, ℕ, zero, suc, ◌+◌, ◌-◌, ◌<◌, ◌≤◌, Bool, true, false, ◌==◌, List, [], ◌∷◌, ◌++◌}
use Rattle.std.specs.Prelude.{if◌then◌else◌}
use Rattle.std.specs.Int.{bit_at}

-- whether the bit of that number is set
unfoldable pub word_bit : ℕ → ℕ → Bool
word_bit word i = bit_at word i == 1

-- so many bits of the word, the lowest first
abbrev pub bits_of : (word count : ℕ) → List Bool
bits_of word zero = []
bits_of word (suc n) = bits_of word n ++ word_bit word n ∷ []

-- Below n the bits that are set are just the members, and none is set from there on.
pub record Marks (n word : ℕ) (IsMember : ℕ → Type 0) : Type 0 where
  pub below : (i : ℕ) → i < n → (word_bit word i ≡ true) ↔ IsMember i
  pub above : (i : ℕ) → n ≤ i → word_bit word i ≡ false

-- each of so many bits is set
abbrev pub AreSet : (word count : ℕ) → Type 0
AreSet word count = (i : ℕ) → i < count → word_bit word i ≡ true

-- how many of the numbers below another pass a test
abbrev pub count_below : ℕ → (ℕ → Bool) → ℕ
count_below zero test = 0
count_below (suc n) test = (if test n then 1 else 0) + count_below n test

-- the bits one place on, behind a first one
abbrev pub one_later : (first : Bool) (bit : ℕ → Bool) → ℕ → Bool
one_later first bit zero = first
one_later first bit (suc i) = bit i

-- how many of the bits from one on and before another are set
abbrev pub count_set : (word from end : ℕ) → ℕ
count_set word from end = count_below (end - from) (λ i. word_bit word (from + i))
