-- What is reported of a stream.
use Rattle.std.specs.Prelude.{◌≡◌, ℕ, ◌≤◌, Bool, true, false, List}
use Rattle.hs_base.specs.Patterns.{Pattern, is_single, IsPair}

-- the least number with the property
pub record IsLeast (Q : ℕ → Type 0) (n : ℕ) : Type 0 where
  pub holds : Q n
  pub least : (m : ℕ) → Q m → n ≤ m

-- The pair is reported of the stream: each pair of an identifier that isn't single; of a single one the pair of least
-- end among those of the stream that may go on, or, where that has none, the pair of least end.
pub data IsReport (P : List Pattern) (w : List ℕ) (ended : Bool) (id to : ℕ) : Type 0 where
  each : is_single P id ≡ false → IsPair P w ended id to → IsReport P w ended id to
  first : is_single P id ≡ true → IsLeast (IsPair P w false id) to → IsReport P w ended id to
  first_at_end : is_single P id ≡ true →
      ((m : ℕ) → IsPair P w false id m → ⊥) →
      IsLeast (IsPair P w ended id) to →
      IsReport P w ended id to
