-- Values in the order in which they are discovered: from a first one, by what each byte leads to.
use Rattle.std.specs.Prelude.{◌≡◌, ℕ, ◌<◌, List, length, Some, slice_get}

-- the byte leads from the value of the one number to that of the other
pub record IsMove {S : Type 0} (move : S → ℕ → S) (values : List S) (from byte to : ℕ) : Type 0 where
  pub source : S
  pub at : slice_get values from ≡ Some source
  pub leads : slice_get values to ≡ Some (move source byte)

-- the byte leads from there to a value of a number below that one
pub record LeadsBelow {S : Type 0} (move : S → ℕ → S) (values : List S) (bound from byte : ℕ) : Type 0 where
  pub to : ℕ
  pub below : to < bound
  pub is : IsMove move values from byte to

-- Values are taken in the order of their numbers, and for each value the bytes in theirs: number i with byte b comes
-- before another number with another byte.
pub data IsTakenBefore (number byte i b : ℕ) : Type 0 where
  earlier_value : i < number → IsTakenBefore number byte i b
  lesser_byte : i ≡ number → b < byte → IsTakenBefore number byte i b

-- A value is discovered from an earlier one: a byte leads from that to it, and what is taken before leads to earlier
-- values alone.
pub record IsDiscovered {S : Type 0} (move : S → ℕ → S) (values : List S) (number : ℕ) : Type 0 where
  pub source : ℕ
  pub byte : ℕ
  pub earlier : source < number
  pub small : byte < 256
  pub is : IsMove move values source byte number
  pub first : (i b : ℕ) → b < 256 → IsTakenBefore source byte i b → LeadsBelow move values number i b

-- The values are the first ones that are discovered, each once.
pub record AreDiscovered {S : Type 0} (first : S) (move : S → ℕ → S) (values : List S) : Type 0 where
  pub begins : slice_get values 0 ≡ Some first
  pub once : (i j : ℕ) (value : S) → slice_get values i ≡ Some value → slice_get values j ≡ Some value → i ≡ j
  pub discovered : (number : ℕ) → 0 < number → number < length values → IsDiscovered move values number

-- And they are all: no byte leads to another value.
pub record AreAllDiscovered {S : Type 0} (first : S) (move : S → ℕ → S) (values : List S) : Type 0 where
  pub so_far : AreDiscovered first move values
  pub closed : (i b : ℕ) → i < length values → b < 256 → LeadsBelow move values (length values) i b
