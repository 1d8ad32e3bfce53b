-- The bits of a literal's entries.
use Rattle.std.proofs.Common.{◌≡◌, ℕ, zero, suc, Bool}

-- what is carried to the bit k
abbrev pub IsCarried : (enters : Bool) (bit : ℕ → Bool) (k : ℕ) → Bool → Type 0
IsCarried enters bit zero carried = carried ≡ enters
IsCarried enters bit (suc k) carried = carried ≡ bit k
