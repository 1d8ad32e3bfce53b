-- Numbers in digits and flags in letters: what their bytes aren't, and that they are read in one way.
use Rattle.std.proofs.Common.{◌≡◌, ◌≢◌, ℕ, ◌+◌, ◌-◌, ◌*◌, ◌<◌, ◌≤◌, List, [], ◌∷◌, length, get_or, drop, sym, ◌∙◌, subst, arith}
use Rattle.std.proofs.lemmas.List.{at_drop_more}
use Rattle.hs_base.specs.Lists.{Each}
use Rattle.hs_text.specs.Numbers.{IsDigit, value_from, IsNumber}
use Rattle.hs_text.specs.FlagLetters.{flag_bit, AreFlags}
use Rattle.hs_text.proofs.CutLemmas.{each-weaken}

-- a number grows as digits are put behind it
pub value_from-le : (n : ℕ) (digits : List ℕ) → n ≤ value_from n digits
value_from-le n [] = omega arith
value_from-le n (d ∷ ds) = omega (arith, value_from-le (n * 10 + (d - 48)) ds)

-- each number on the way is below the bound
pub fits_more : (bound : ℕ) (digits : List ℕ) (i v value : ℕ) → i < length digits → value_from v (drop i digits) ≡ value_from 0 digits → value_from 0 digits ≡ value → value < bound → v * 10 + (get_or digits i 0 - 48) < bound
fits_more bound digits i v value below kept spelled small =
    let more = at_drop_more (value_from v) digits i 0 below in
    omega (arith, more, value_from-le (v * 10 + (get_or digits i 0 - 48)) (drop (i + 1) digits))

-- digits spell one number
pub number_once : {most bound : ℕ} {digits : List ℕ} {v w : ℕ} → IsNumber most bound digits v → IsNumber most bound digits w → v ≡ w
number_once p q = sym p.spelled ∙ q.spelled

-- a byte below `0` or above `9` isn't among the digits of a number
pub number_apart : (c : ℕ) → (IsDigit c → ⊥) → {most bound : ℕ} {digits : List ℕ} {v : ℕ} → IsNumber most bound digits v → Each (λ b. b ≢ c) digits
number_apart c other {digits = digits} p = each-weaken IsDigit (λ b. b ≢ c) digits (λ b digit e. other (subst IsDigit e digit)) p.each

-- letters name their flags in one way
pub flags_once : {letters : List ℕ} {f g : ℕ} → AreFlags letters f → AreFlags letters g → f ≡ g
flags_once p q = sym p.named ∙ q.named

-- a byte that names no flag isn't among the letters of flags
pub letters_apart : (c : ℕ) → (0 < flag_bit c → ⊥) → {letters : List ℕ} {flags : ℕ} → AreFlags letters flags → Each (λ b. b ≢ c) letters
letters_apart c other {letters} p = each-weaken (λ b. 0 < flag_bit b) (λ b. b ≢ c) letters (λ b names e. other (subst (λ n. 0 < flag_bit n) e names)) p.each

-- `/` names no flag
pub slash_unnamed : 0 < flag_bit 47 → ⊥
unfolding flag_bit
slash_unnamed named = omega arith

-- `{` names no flag
pub brace_unnamed : 0 < flag_bit 123 → ⊥
unfolding flag_bit
brace_unnamed named = omega arith
