use Rattle.std.proofs.Common.{◌≡◌, length}
use Rattle.hs_outside.proofs.Sending.{Sent}
use Rattle.hs_outside.proofs.transfer.write_all.Given as goal

abbrev pub invariant-loop-rest : goal.invariant-loop-rest
invariant-loop-rest g l = record {
  sent : Sent (g.O.Sink.written l.initial.sink) (g.O.Sink.written l.sink) l.bytes l.rest;
  counted : g.O.Sink.faults l.sink ≡ g.O.Sink.faults l.initial.sink;
}

abbrev pub decreases-loop-rest : goal.decreases-loop-rest
decreases-loop-rest g l = length l.rest
