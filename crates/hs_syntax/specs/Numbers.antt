-- Numbers in an expression, in a base of at most 16.
use Rattle.std.specs.Prelude.{ℕ, ◌+◌, ◌-◌, ◌*◌, ◌&&◌, nat_lt, if◌then◌else◌, List, [], ◌∷◌, length, drop}
use Rattle.std.specs.Int.{is_in_range}
use Rattle.hs_syntax.specs.declared.number.Number.{Number}

-- the value of a digit, 16 where the byte is none
unfoldable pub digit_of : ℕ → ℕ
digit_of b =
    if is_in_range 48 57 b then b - 48
    else if is_in_range 97 102 b then b - 87
    else if is_in_range 65 70 b then b - 55
    else 16

abbrev pub number : ℕ → ℕ → Number
number value count = record { value = value; count = count }

-- The digits that the bytes begin with, so many in all at most, behind some that spell the value: what they spell
-- together, and how many they are.
abbrev pub number_on : (radix most value count : ℕ) → List ℕ → Number
number_on radix most value count [] = number value count
number_on radix most value count (b ∷ bytes) =
    if nat_lt count most && nat_lt (digit_of b) radix
    then number_on radix most (value * radix + digit_of b) (count + 1) bytes
    else number value count

-- the greatest number that is told apart
abbrev pub greatest_number : ℕ
greatest_number = 4294967295

-- a number, or the greatest one where it is above that
abbrev pub capped : ℕ → ℕ
capped n = if nat_lt n greatest_number then n else greatest_number

-- what the digits from a place on spell, so many at most, and how many they are
unfoldable pub number_at : (radix most : ℕ) → List ℕ → (at : ℕ) → Number
number_at radix most bytes at =
    let all = number_on radix most 0 0 (drop at bytes) in number (capped all.value) all.count

-- all digits, in base ten
abbrev pub decimal_at : List ℕ → (at : ℕ) → Number
decimal_at bytes at = number_at 10 (length bytes) bytes at
