-- Literals as lists of numbers.
use Rattle.std.specs.Prelude.{ℕ, ◌+◌, ◌*◌, List, map, if◌then◌else◌}
use Rattle.hs_base.specs.declared.literal.LitByte.{LitByte}
use Rattle.hs_base.specs.LiteralView.{literal_byte}
use Rattle.hs_base.specs.Literals.{LiteralByte}

-- what stands at a place of a literal, as one number that nothing else has
abbrev pub key_byte : LiteralByte → ℕ
key_byte x = 2 * x.byte + (if x.both_cases then 1 else 0)

-- the key of a literal: a number for each place
abbrev pub key_of : List LiteralByte → List ℕ
key_of xs = map key_byte xs

-- the number of a byte of a literal as the code keeps it
abbrev pub key_at : LitByte → ℕ
key_at x = key_byte (literal_byte x)
