use Rattle.std.proofs.Common.{◌≡◌, take}
use Rattle.hs_pieces.proofs.same.same_ranges.Given as goal

abbrev pub invariant-loop-k : goal.invariant-loop-k
invariant-loop-k l = take l.k l.xs ≡ take l.k l.ys
