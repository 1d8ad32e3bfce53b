-- Numbers by their digits to the base 64: behind its first byte, an encoding has one digit of its code point in each
-- byte.
use Rattle.std.specs.Prelude.{◌≡◌, ℕ, zero, suc, ◌+◌, ◌/◌, ◌%◌, ◌≤◌, ◌≢◌, ◌⊎◌, true, List, [], ◌∷◌, ◌++◌, length}
use Rattle.std.specs.Prelude.{encode_utf8}
use Rattle.hs_utf8.specs.Members.{has_encoding}

-- the bytes of a number: so many bytes at the end have one digit each, and the first byte has what stands before them
abbrev pub digit_bytes : ℕ → ℕ → ℕ → List ℕ
digit_bytes lead zero c = (lead + c) ∷ []
digit_bytes lead (suc tail) c = digit_bytes lead tail (c / 64) ++ (0x80 + c % 64) ∷ []

-- The numbers from the first to the last are all choices of a digit from one range per place, where so many digits
-- stand at the end: either the last digits are all of 0 to 63, and it is so of what stands before them, or the same
-- stands before all last digits.
abbrev pub AreDigits : ℕ → ℕ → ℕ → Type 0
AreDigits zero first last = first ≤ last
AreDigits (suc tail) first last =
    ((first % 64 ≡ 0) × (last % 64 ≡ 63) × AreDigits tail (first / 64) (last / 64))
    ⊎ ((first / 64 ≡ last / 64) × (first ≤ last))

-- the last number up to an end for which it is so
pub record IsRunEnd (tail first end last : ℕ) : Type 0 where
  pub digits : AreDigits tail first last
  pub within : last ≤ end
  pub longest : (other : ℕ) → AreDigits tail first other → other ≤ end → other ≤ last

-- the code points from one to a last one have encodings of one length, with so many digits at the end, and the next one
-- has none of that length
pub record HasLength (first last tail : ℕ) : Type 0 where
  pub lead : ℕ
  pub some : first ≤ last
  pub bounded : last ≤ 0x10FFFF
  pub scalar : (c : ℕ) → first ≤ c → c ≤ last → has_encoding c ≡ true
  pub encodings : (c : ℕ) → first ≤ c → c ≤ last → encode_utf8 c ≡ digit_bytes lead tail c
  pub ends : has_encoding (last + 1) ≡ true → length (encode_utf8 (last + 1)) ≢ tail + 1
