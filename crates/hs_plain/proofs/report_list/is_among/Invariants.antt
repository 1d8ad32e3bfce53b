use Rattle.std.proofs.Common.{take}
use Rattle.hs_base.specs.Lists.{IsMember}
use Rattle.hs_plain.specs.PlainPatterns.{pair_of, pairs_of}
use Rattle.hs_plain.proofs.report_list.is_among.Given as goal

abbrev pub invariant-loop-i : goal.invariant-loop-i
invariant-loop-i l = IsMember (pair_of l.report) (pairs_of (take l.i l.found)) → ⊥
