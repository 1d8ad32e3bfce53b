use Rattle.hs_stream.specs.Scratches.{IsScratchOf}
use Rattle.hs_stream.specs.Streams.{IsStreamOf}
use Rattle.hs_tests_runs.proofs.telling.write_all.Given as goal

abbrev pub invariant-loop-at : goal.invariant-loop-at
invariant-loop-at g l = record {
  fits : IsStreamOf l.database l.stream;
  scratch : IsScratchOf l.database l.scratch;
}
