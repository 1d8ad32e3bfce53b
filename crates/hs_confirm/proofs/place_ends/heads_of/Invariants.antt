use Rattle.std.proofs.Common.{◌≡◌, ◌++◌, ◌+◌, length, get_or}
use Rattle.hs_confirm.specs.Heads.{IsHead, AreOpenBuckets, OutsideHave}
use Rattle.hs_confirm.proofs.place_ends.heads_of.Given as goal

abbrev pub invariant-loop-left : goal.invariant-loop-left
invariant-loop-left l = record {
  eight : length l.heads ≡ 8;
  unmasked : AreOpenBuckets l.mask l.left;
  heads : OutsideHave (λ b. IsHead l.confirm.entries.items l.mask (l.history ++ l.bytes) (length l.history + l.at) b (get_or l.heads b 0)) l.left;
}

abbrev pub decreases-loop-left : goal.decreases-loop-left
decreases-loop-left l = l.left
