-- Bytes made of a test of the numbers of their bits.
use Rattle.std.specs.Prelude.{ℕ, zero, suc, ◌+◌, ◌*◌, Bool, List, [], ◌∷◌, if◌then◌else◌}

-- the number whose lowest bits are those that pass, so many of them
abbrev pub digits : (count : ℕ) (bit : ℕ → Bool) → ℕ
digits zero bit = 0
digits (suc n) bit = (if bit 0 then 1 else 0) + 2 * digits n (λ k. bit (suc k))

-- so many bytes, whose bits are those that pass
abbrev pub packed : (len : ℕ) (bit : ℕ → Bool) → List ℕ
packed zero bit = []
packed (suc n) bit = digits 8 bit ∷ packed n (λ k. bit (8 + k))
