use Rattle.std.proofs.Common.{take}
use Rattle.hs_base.specs.Lists.{IsMember}
use Rattle.hs_plain.specs.PlainPatterns.{pairs_of, KeepsPairs}
use Rattle.hs_plain.proofs.report_list.new_of.Given as goal

abbrev pub invariant-loop-i : goal.invariant-loop-i
invariant-loop-i l = KeepsPairs (λ p. IsMember p (pairs_of l.before) → ⊥) (pairs_of (take l.i l.after)) (pairs_of l.new.items)
