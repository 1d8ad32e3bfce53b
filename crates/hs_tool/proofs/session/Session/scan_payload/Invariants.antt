use Rattle.std.proofs.Common.{◌≡◌, ◌+◌, ◌≤◌}
use Rattle.hs_base.specs.Offsets.{greatest_offset}
use Rattle.hs_stream.specs.Streams.{offset_of, IsStreamOf}
use Rattle.hs_reader.specs.Breaks.{NoFault}
use Rattle.hs_tool.specs.Sessions.{Stays}
use Rattle.hs_tool.proofs.PayloadLemmas.{IsScannedSoFar}
use Rattle.hs_tool.proofs.session.Session.scan_payload.Given as goal

abbrev pub invariant-loop-left : goal.invariant-loop-left
invariant-loop-left g l = record {
  scanned : IsScannedSoFar l.fn.self.db.now l.name l.count l.left l.fn.stream l.stream (g.I.Source.left l.fn.self.input.now) (g.I.Source.left l.self.input.now) l.fn.self.reader l.self.reader
      (g.O.Sink.written l.fn.self.out.now) (g.O.Sink.written l.self.out.now) l.fn.self.pending l.self.pending;
  stays : Stays l.fn.self l.self;
  same_files : l.self.store ≡ l.fn.self.store;
  fits : IsStreamOf l.fn.self.db.now l.stream;
  room : offset_of l.stream + l.left ≤ greatest_offset;
  counted : NoFault (g.I.Source.faults l.fn.self.input.now) (g.I.Source.faults l.self.input.now) (g.O.Sink.faults l.fn.self.out.now) (g.O.Sink.faults l.self.out.now);
}

abbrev pub decreases-loop-left : goal.decreases-loop-left
decreases-loop-left g l = l.left
