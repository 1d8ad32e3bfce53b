use Rattle.std.proofs.Common.{◌≡◌, length}
use Rattle.hs_keeping.specs.Keeping.{singles_before}
use Rattle.hs_keeping.proofs.KeepingLemmas.{AreReadTo}
use Rattle.hs_keeping.proofs.keeping.read_each.Given as goal

abbrev pub invariant-loop-p : goal.invariant-loop-p
invariant-loop-p l = record {
  told : length l.told ≡ length l.fn.told;
  here : length l.here ≡ length l.fn.here;
  single : l.single ≡ singles_before l.identifiers l.p;
  read : AreReadTo l.layout l.region l.identifiers l.told l.here l.p;
}
