-- A context by its two parts.
use Rattle.hs_base.specs.declared.context.Prev.{Prev}
use Rattle.hs_base.specs.declared.context.Next.{Next}
use Rattle.hs_base.specs.Contexts.{Context}

-- what stands before and what comes next, together
abbrev pub between : Prev → Next → Context
between prev next = record { prev = prev; next = next }
