use Rattle.hs_plain.proofs.EndLemmas.{IsEndBelow}
use Rattle.hs_plain.specs.PlainPatterns.{pairs_of, AddsPairs}
use Rattle.hs_plain.proofs.pair_list.add_pattern.Given as goal

abbrev pub invariant-loop-to : goal.invariant-loop-to
invariant-loop-to l = AddsPairs (IsEndBelow l.pattern l.ends l.to) (pairs_of l.initial.found.items) (pairs_of l.found.items)
