-- What is built of the states so far: they are discovered number by number, and for each number class by class of
-- bytes.
use Rattle.std.specs.Prelude.{◌≡◌, ℕ, ◌+◌, ◌*◌, ◌<◌, List, length, slice_index}
use Rattle.hs_states.specs.Discovery.{AreDiscovered, IsMove}

-- the byte was taken at the number: that is one before i, or it is i and the byte's class is one before c
pub data IsDone (class : ℕ → ℕ) (i c j b : ℕ) : Type 0 where
  done_number : j < i → IsDone class i c j b
  done_class : j ≡ i → class b < c → IsDone class i c j b

-- what the rows of so many classes say of a number and a byte
abbrev pub table_number : (class : ℕ → ℕ) (count : ℕ) → List ℕ → (number byte : ℕ) → ℕ
table_number class count rows number byte = slice_index rows (number * count + class byte)

-- The values are discovered in order, and the rows tell where the bytes lead that were taken.
pub record IsSoFar {S : Type 0} (first : S) (move : S → ℕ → S) (class : ℕ → ℕ) (count : ℕ) (values : List S)
    (rows : List ℕ) (i c : ℕ) : Type 0 where
  pub so_far : AreDiscovered first move values
  pub moves : (j b : ℕ) → b < 256 → j < length values → IsDone class i c j b →
      IsMove move values j b (table_number class count rows j b)
