use Rattle.std.proofs.Common.{◌≡◌, ◌-◌, length}
use Rattle.hs_base.specs.Offsets.{greatest_offset}
use Rattle.hs_stream.specs.Caches.{IsCacheOf}
use Rattle.hs_stream.specs.Streams.{offset_of, IsStreamOf}
use Rattle.hs_lines.specs.Passing.{IsPassedOn}
use Rattle.hs_outside.specs.declared.transfer.TheConstants.{PIECE_LEN}
use Rattle.hs_tool.proofs.ScanLemmas.{IsScannedTo}
use Rattle.hs_tool.proofs.scan.scan_file.Given as goal

abbrev pub invariant-pieces : goal.invariant-pieces
invariant-pieces g l = record {
  seen : IsScannedTo l.db (g.S.Store.told l.fn.store l.name) l.fn.stream l.stream
      (λ text. IsPassedOn (g.O.Sink.written l.fn.out) (g.O.Sink.written l.out) (g.O.Sink.faults l.fn.out) (g.O.Sink.faults l.out) l.fn.pending l.pending text);
  fits : IsStreamOf l.db l.stream;
  cache : IsCacheOf l.db l.cache;
  stored : g.S.Store.faults l.store ≡ g.S.Store.faults l.fn.store;
  sunk : g.O.Sink.faults l.out ≡ g.O.Sink.faults l.fn.out;
  room : length l.piece ≡ PIECE_LEN;
  kept : g.S.Store.told l.store ≡ g.S.Store.told l.fn.store;
}

abbrev pub decreases-pieces : goal.decreases-pieces
decreases-pieces g l = greatest_offset - offset_of l.stream
