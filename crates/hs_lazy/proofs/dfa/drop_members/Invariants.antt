use Rattle.std.proofs.Common.{◌≡◌, length}
use Rattle.hs_lazy.specs.Parts.{AreFewer}
use Rattle.hs_lazy.proofs.dfa.drop_members.Given as goal

abbrev pub invariant-loop-k : goal.invariant-loop-k
invariant-loop-k l = record {
  len : length l.members ≡ length l.fn.members;
  fewer : AreFewer l.fn.members l.members;
}
