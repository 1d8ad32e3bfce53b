use Rattle.std.proofs.Common.{◌≡◌, map, drop}
use Rattle.hs_base.specs.LiteralView.{literal_byte}
use Rattle.hs_run.specs.Pieces.{takes_all}
use Rattle.hs_run.proofs.literals.takes_all.Given as goal

abbrev pub invariant-loop-at : goal.invariant-loop-at
invariant-loop-at l = takes_all (map literal_byte (drop l.at l.literal)) (drop l.at l.bytes) ≡ takes_all (map literal_byte l.literal) l.bytes
