use Rattle.std.proofs.Common.{◌≡◌, ◌*◌, length}
use Rattle.hs_lazy.specs.Parts.{AreOwnersLive}
use Rattle.hs_lazy.proofs.dfa.live_members.Given as goal

abbrev pub invariant-loop-word : goal.invariant-loop-word
invariant-loop-word l = record {
  len : length l.live ≡ 4;
  live : AreOwnersLive l.owners l.image l.live (8 * l.word);
}
