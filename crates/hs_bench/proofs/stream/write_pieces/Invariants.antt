use Rattle.std.proofs.Common.{length}
use Rattle.hs_stream.specs.Caches.{IsCacheOf}
use Rattle.hs_stream.specs.Streams.{IsStreamOf}
use Rattle.hs_bench.proofs.StreamingLemmas.{IsPartly}
use Rattle.hs_bench.proofs.stream.write_pieces.Given as goal

abbrev pub invariant-loop-rest : goal.invariant-loop-rest
invariant-loop-rest g l = record {
  fits : IsStreamOf l.database l.stream;
  cache : IsCacheOf l.database l.cache;
  partly : IsPartly l.database l.fn.stream l.stream l.text l.rest l.reports.count;
}

abbrev pub decreases-loop-rest : goal.decreases-loop-rest
decreases-loop-rest g l = length l.rest
