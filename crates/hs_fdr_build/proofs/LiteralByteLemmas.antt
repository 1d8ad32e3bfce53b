-- Which bytes may stand at a place of a literal.
use Rattle.std.proofs.Common.{◌≡◌, ◌↔◌, ℕ, ◌+◌, ◌-◌, ◌≤◌, ◌⊎◌, Bool, true, false, ◌==◌, inl, inr, arith}
use Rattle.std.proofs.lemmas.Bool.{eqb-true, eq-eqb, or_cases, or_left, or_right}
use Rattle.hs_base.specs.Literals.{takes}

-- one byte
pub takes-one : (byte : ℕ) (both : Bool) → both ≡ false → (b : ℕ) → (takes (record { byte = byte; both_cases = both }) b ≡ true) ↔ ((b ≡ byte) ⊎ (b ≡ byte))
takes-one byte false single b = (
  λ is. elim (or_cases (b == byte) false is) [ inl same ↦ inl (eqb-true b byte same) | inr never ↦ let e : false ≡ true = never in absurd (cc) ],
  λ found. elim found [ inl same ↦ or_left (b == byte) false (eq-eqb b byte same) | inr same ↦ or_left (b == byte) false (eq-eqb b byte same) ],
)
takes-one byte true single b = absurd (cc)

-- both cases of a letter
pub takes-both : (byte : ℕ) (both : Bool) → both ≡ true → 32 ≤ byte → (b : ℕ) → (takes (record { byte = byte; both_cases = both }) b ≡ true) ↔ ((b ≡ byte) ⊎ (b ≡ byte - 32))
takes-both byte true double room b = (
  λ is. elim (or_cases (b == byte) (b + 32 == byte) is) [ inl same ↦ inl (eqb-true b byte same) | inr capital ↦ let e : b + 32 ≡ byte = eqb-true (b + 32) byte capital in inr (omega arith) ],
  λ found. elim found [ inl same ↦ or_left (b == byte) (b + 32 == byte) (eq-eqb b byte same) | inr capital ↦ or_right (b == byte) (b + 32 == byte) (eq-eqb (b + 32) byte (omega arith)) ],
)
takes-both byte false double room b = absurd (cc)
