-- The class of a byte by what stands behind it.
use Rattle.hs_base.specs.declared.context.Prev.{Prev}
use Rattle.hs_base.specs.declared.context.Prev.TheVariants as before
use Rattle.hs_base.specs.declared.context.Next.{Next}
use Rattle.hs_base.specs.declared.context.Next.TheVariants as after

abbrev pub next_behind : Prev → Next
next_behind before.Start = after.Other
next_behind before.Word = after.Word
next_behind before.Newline = after.Newline
next_behind before.Other = after.Other
