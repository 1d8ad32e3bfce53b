use Rattle.hs_base.specs.MatchText.{end_line}
use Rattle.hs_stream.specs.Streams.{offset_of}
use Rattle.hs_tool.proofs.ScanLemmas.{close-sent, close-cut}
use Rattle.hs_tool.proofs.scan.close_scan.Goals as goal

pub returns-in-Ok : goal.returns-in-Ok
returns-in-Ok g c =
    close-sent c.write_end.result _ _ _ _ _ _ c.args.pending.now _ (end_line (offset_of c.args.stream)) c.in-Ok.ensures
    (rw c.offset-total.ensures at c.write_end.ensures)

pub returns-in-Err : goal.returns-in-Err
returns-in-Err g c = close-cut _ _ _ _ c.args.pending.now (end_line (offset_of c.args.stream)) c.in-Err.ensures
