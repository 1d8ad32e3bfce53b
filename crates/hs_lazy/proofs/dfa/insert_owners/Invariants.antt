use Rattle.std.proofs.Common.{◌≡◌, length}
use Rattle.hs_lazy.specs.Parts.{AreOwnersLive}
use Rattle.hs_lazy.proofs.dfa.insert_owners.Given as goal

abbrev pub invariant-loop-place : goal.invariant-loop-place
invariant-loop-place l = record {
  len : length l.live ≡ 4;
  live : AreOwnersLive l.owners l.image l.live l.place;
}
