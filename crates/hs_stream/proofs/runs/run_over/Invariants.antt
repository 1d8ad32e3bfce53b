use Rattle.std.proofs.Common.{◌≡◌, ◌+◌, ◌≤◌, [], length}
use Rattle.hs_stream.specs.Caches.{IsCacheOf}
use Rattle.hs_stream.specs.Streams.{IsStreamOf}
use Rattle.hs_stream.proofs.CutRunLemmas.{IsRunTo}
use Rattle.hs_stream.proofs.runs.run_over.Given as goal

abbrev pub invariant-loop-rest : goal.invariant-loop-rest
invariant-loop-rest g l = record {
  to : IsRunTo l.db l.bytes l.rest l.stream l.tally;
  fits : IsStreamOf l.db l.stream;
  cache : IsCacheOf l.db l.cache;
  empty : l.collected ≡ record { reports = []; room = l.room };
  counted : l.pieces + length l.rest ≤ length l.bytes;
}

abbrev pub decreases-loop-rest : goal.decreases-loop-rest
decreases-loop-rest g l = length l.rest
