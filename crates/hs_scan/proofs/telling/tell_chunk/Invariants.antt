use Rattle.std.proofs.Common.{length}
use Rattle.hs_reports.specs.Events.{Takes}
use Rattle.hs_keeping.specs.Knowing.{FitsKnown, IsPending}
use Rattle.hs_scan.specs.Telling.{TellsBlocks}
use Rattle.hs_scan.proofs.telling.tell_chunk.Given as goal

abbrev pub invariant-loop-j : goal.invariant-loop-j
invariant-loop-j g l = record {
  fits : FitsKnown (length l.graph.identifiers.items) l.known;
  pending : IsPending l.known;
  told :
      Takes g.V.Events.tells l.fn.events l.events
      (TellsBlocks g.E.Engine.meaning l.graph l.chunk.bytes.now l.chunk.at l.ends l.all l.fn.known.told.items l.fn.known.here.items l.known.told.items l.known.here.items l.j);
}
