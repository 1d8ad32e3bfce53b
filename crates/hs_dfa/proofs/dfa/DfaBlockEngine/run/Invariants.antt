use Rattle.std.proofs.Common.{◌-◌, ◌≤◌, length}
use Rattle.hs_dfa.proofs.BlockRunLemmas.{IsRunSoFar}
use Rattle.hs_dfa.proofs.dfa.DfaBlockEngine.run.Given as goal

abbrev pub invariant-loop-place : goal.invariant-loop-place
invariant-loop-place g l = record {
  so : IsRunSoFar l.self l.region l.fn.prev l.fn.at l.fn.enters l.bytes l.place l.number l.ends;
  few : l.kept ≤ 8;
}

abbrev pub decreases-loop-place : goal.decreases-loop-place
decreases-loop-place g l = length l.bytes - l.place
