-- The contexts in which a byte comes next, by the numbers of their squares.
use Rattle.std.specs.Prelude.{ℕ, zero, suc, ◌/◌, ◌%◌}
use Rattle.hs_base.specs.declared.context.Prev.{Prev}
use Rattle.hs_base.specs.declared.context.Prev.TheVariants as before
use Rattle.hs_base.specs.declared.context.Next.{Next}
use Rattle.hs_base.specs.declared.context.Next.TheVariants as after
use Rattle.hs_base.specs.Contexts.{Context}

abbrev pub prev_numbered : ℕ → Prev
prev_numbered zero = before.Start
prev_numbered (suc zero) = before.Word
prev_numbered (suc (suc zero)) = before.Newline
prev_numbered (suc (suc (suc n))) = before.Other

abbrev pub class_numbered : ℕ → Next
class_numbered zero = after.Word
class_numbered (suc zero) = after.Newline
class_numbered (suc (suc n)) = after.Other

abbrev pub context_numbered : ℕ → Context
context_numbered square = record { prev = prev_numbered (square / 3); next = class_numbered (square % 3) }
