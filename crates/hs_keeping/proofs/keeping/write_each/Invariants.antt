use Rattle.std.proofs.Common.{◌≡◌}
use Rattle.hs_keeping.specs.Keeping.{AreBitsWritten, singles_before}
use Rattle.hs_keeping.proofs.KeepingLemmas.{AreLastTo, AreReadTo}
use Rattle.hs_keeping.proofs.keeping.write_each.Given as goal

abbrev pub invariant-loop-p : goal.invariant-loop-p
invariant-loop-p l = record {
  written : AreBitsWritten l.layout l.fn.region l.region;
  single : l.single ≡ singles_before l.identifiers l.p;
  read : AreReadTo l.layout l.region l.identifiers l.told l.here l.p;
  last : AreLastTo l.layout l.region l.identifiers l.last l.p;
}
