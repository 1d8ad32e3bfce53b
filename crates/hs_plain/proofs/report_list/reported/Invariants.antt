use Rattle.std.proofs.Common.{ℕ, List, Bool, false, take}
use Rattle.hs_base.specs.Reports.{IsReport}
use Rattle.hs_plain.specs.PlainPatterns.{patterns_of, pairs_of, ArePairs, KeepsPairs}
use Rattle.hs_plain.proofs.report_list.reported.Given as goal

abbrev pub invariant-loop-i : goal.invariant-loop-i
invariant-loop-i l = (w : List ℕ) (ended : Bool) → ArePairs (patterns_of l.patterns) w false (pairs_of l.before) → ArePairs (patterns_of l.patterns) w ended (pairs_of l.all) → KeepsPairs (λ p. IsReport (patterns_of l.patterns) w ended p.id p.to) (pairs_of (take l.i l.all)) (pairs_of l.found.items)
