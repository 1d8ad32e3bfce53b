use Rattle.std.proofs.Common.{◌≡◌, length}
use Rattle.hs_keeping.proofs.LeavingLemmas.{AreLeftTo}
use Rattle.hs_keeping.proofs.leaving.fill_last.Given as goal

abbrev pub invariant-loop-p : goal.invariant-loop-p
invariant-loop-p l = record {
  len : length l.last ≡ length l.fn.last;
  left : AreLeftTo l.identifiers l.known.told.items l.known.here.items l.known.ends l.finals l.last l.p;
}
