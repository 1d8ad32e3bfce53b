use Rattle.hs_parse.proofs.RangeLemmas.{HasNamed}
use Rattle.hs_parse.proofs.point_set.named_points.Given as goal

-- the members so far are there
abbrev pub invariant-loop-byte : goal.invariant-loop-byte
invariant-loop-byte l = HasNamed l.class l.all.items l.byte
