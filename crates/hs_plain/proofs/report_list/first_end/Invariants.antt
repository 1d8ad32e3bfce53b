use Rattle.std.proofs.Common.{ℕ, take}
use Rattle.hs_base.specs.Lists.{IsMember}
use Rattle.hs_plain.specs.PlainPatterns.{pairs_of}
use Rattle.hs_plain.proofs.report_list.first_end.Given as goal

abbrev pub invariant-loop-i : goal.invariant-loop-i
invariant-loop-i l = (to : ℕ) → IsMember (record { id = l.id.0; to = to }) (pairs_of (take l.i l.found)) → ⊥
