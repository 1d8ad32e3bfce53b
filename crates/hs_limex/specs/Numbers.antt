-- What stands before and what comes next, by the numbers by which masks keep them.
use Rattle.std.specs.Prelude.{ℕ, zero, suc}
use Rattle.hs_base.specs.declared.context.Prev.{Prev}
use Rattle.hs_base.specs.declared.context.Prev.TheVariants as before
use Rattle.hs_base.specs.declared.context.Next.{Next}
use Rattle.hs_base.specs.declared.context.Next.TheVariants as after

abbrev pub prev_numbered : ℕ → Prev
prev_numbered zero = before.Start
prev_numbered (suc zero) = before.Word
prev_numbered (suc (suc zero)) = before.Newline
prev_numbered (suc (suc (suc n))) = before.Other

abbrev pub next_numbered : ℕ → Next
next_numbered zero = after.Word
next_numbered (suc zero) = after.Newline
next_numbered (suc (suc zero)) = after.Other
next_numbered (suc (suc (suc zero))) = after.End
next_numbered (suc (suc (suc (suc zero)))) = after.FinalNewline
next_numbered (suc (suc (suc (suc (suc n))))) = after.Unknown
