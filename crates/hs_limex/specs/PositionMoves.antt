-- What tables say of each position, in whatever form they keep it.
use Rattle.std.specs.Prelude.{ℕ, Bool}
use Rattle.hs_base.specs.declared.byte_set.ByteSet.{ByteSet}
use Rattle.hs_base.specs.Contexts.{Context}

-- how many positions there are, the bytes with which a match may begin, and which positions a byte reaches, are entered
-- in a context, accept in it, and follow another in it
pub record PositionMoves : Type 0 where
  pub size : ℕ
  pub first : ByteSet
  pub reach : (byte k : ℕ) → Bool
  pub enters : (c : Context) (k : ℕ) → Bool
  pub accepts : (c : Context) (k : ℕ) → Bool
  pub follows : (x y : ℕ) (c : Context) → Bool
