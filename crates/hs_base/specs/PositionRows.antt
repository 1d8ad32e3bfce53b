-- What the bits of an expression's positions say, behind the bytes u.
use Rattle.std.specs.Prelude.{◌≡◌, ◌↔◌, ℕ, Bool, true, List}
use Rattle.hs_base.specs.Bits.{has_bit}
use Rattle.hs_base.specs.WrittenOut.{Core, IsReached}

-- The bytes are the field of the expression behind u: just the bits of the positions that are reached are set.
abbrev pub IsField : List ℕ → Core → List ℕ → List Bool → Type 0
IsField bytes r u entered = (x : ℕ) → (has_bit bytes x ≡ true) ↔ IsReached r u entered x
