use Rattle.std.proofs.Common.{◌≡◌, map, take}
use Rattle.hs_base.specs.LiteralView.{literal_byte}
use Rattle.hs_pieces.proofs.same.same_literal.Given as goal

abbrev pub invariant-loop-k : goal.invariant-loop-k
invariant-loop-k l = take l.k (map literal_byte l.xs) ≡ take l.k (map literal_byte l.ys)
