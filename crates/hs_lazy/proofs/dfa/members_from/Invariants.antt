use Rattle.std.proofs.Common.{◌≡◌, length}
use Rattle.hs_lazy.proofs.dfa.members_from.Given as goal

abbrev pub invariant-loop-k : goal.invariant-loop-k
invariant-loop-k l = record {
  len : length l.members ≡ 4;
}
