use Rattle.std.proofs.Common.{◌≡◌, ◌++◌, ◌+◌, length}
use Rattle.hs_confirm.specs.Found.{AreAmong, buckets_left}
use Rattle.hs_confirm.proofs.head.first_head.Given as goal

abbrev pub invariant-loop-left : goal.invariant-loop-left
invariant-loop-left l = record {
  among : AreAmong l.left l.buckets;
  all : buckets_left l.confirm.entries.items l.left (l.history ++ l.bytes) (length l.history + l.at) ≡ buckets_left l.confirm.entries.items l.buckets (l.history ++ l.bytes) (length l.history + l.at);
}

abbrev pub decreases-loop-left : goal.decreases-loop-left
decreases-loop-left l = l.left
