use Rattle.std.proofs.Common.{◌≤◌, [], length, take}
use Rattle.hs_base.specs.Lists.{OneOf}
use Rattle.hs_base.specs.Patterns.{HasEnd}
use Rattle.hs_plain.specs.PlainPatterns.{patterns_of, pairs_of, AddsPairs}
use Rattle.hs_plain.proofs.pair_list.pairs.Given as goal

abbrev pub invariant-loop-i : goal.invariant-loop-i
invariant-loop-i l = AddsPairs (λ p. (p.to ≤ length l.stream) × OneOf (HasEnd l.stream l.ended p.id p.to) (patterns_of (take l.i l.patterns))) [] (pairs_of l.found.items)
