-- At which bytes a test passes, as bits, and a set of bytes as two tables.
use Rattle.std.specs.Prelude.{◌≡◌, ℕ, ◌%◌, Bool, ◌==◌, ◌&&◌, nat_lt, List, slice_index, if◌then◌else◌}
use Rattle.std.specs.Int.{bit_at}
use Rattle.hs_base.specs.Bits.{has_bit}

-- of so many bytes the bits are set of those at which the test passes, and no other
abbrev pub ArePlacesOf : (test : ℕ → Bool) (bytes : List ℕ) (count places : ℕ) → Type 0
ArePlacesOf test bytes count places =
    (i : ℕ) → (bit_at places i == 1) ≡ (nat_lt i count && test (slice_index bytes i))

-- the bit of a byte in the first table, or in the second one from 128 on
abbrev pub in_tables : (first second : List ℕ) → ℕ → Bool
in_tables first second b = has_bit (if nat_lt b 128 then first else second) (b % 128)
