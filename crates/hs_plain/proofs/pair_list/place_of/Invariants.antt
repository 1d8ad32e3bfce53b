use Rattle.std.proofs.Common.{take}
use Rattle.hs_base.specs.Lists.{Each}
use Rattle.hs_base.specs.Told.{IsBefore}
use Rattle.hs_plain.specs.PlainPatterns.{pair_of, pairs_of}
use Rattle.hs_plain.proofs.pair_list.place_of.Given as goal

abbrev pub invariant-loop-i : goal.invariant-loop-i
invariant-loop-i l = Each (λ p. IsBefore p (pair_of l.report)) (pairs_of (take l.i l.found))
