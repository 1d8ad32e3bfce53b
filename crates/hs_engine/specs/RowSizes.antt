-- The room that rows of bits take, and the numbers by which they are kept.
use Rattle.std.specs.Prelude.{ℕ, ◌+◌, ◌/◌, Bool, true, false}
use Rattle.hs_base.specs.declared.context.Next.{Next}
use Rattle.hs_base.specs.declared.context.Next.TheVariants as after

-- the bytes that hold a bit for each position
abbrev pub row_len : (size : ℕ) → ℕ
row_len size = (size + 7) / 8

-- how many squares there are: one for all contexts, or one for each in which a byte comes next
abbrev pub square_count : (by_context : Bool) → ℕ
square_count false = 1
square_count true = 12

-- the numbers of the classes of bytes; what is none counts as another byte
abbrev pub class_number : Next → ℕ
class_number after.Word = 0
class_number after.Newline = 1
class_number after.Other = 2
class_number after.End = 2
class_number after.FinalNewline = 2
class_number after.Unknown = 2
