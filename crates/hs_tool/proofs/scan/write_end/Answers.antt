use Rattle.hs_base.specs.MatchText.{end_line}
use Rattle.hs_outside.proofs.Sending.{IsCutShort-longer}
use Rattle.hs_tool.proofs.ScanLemmas.{line-sent}
use Rattle.hs_tool.proofs.scan.write_end.Goals as goal

pub returns-in-Ok : goal.returns-in-Ok
returns-in-Ok g c =
    line-sent c.flush.result _ _ _ _ _ _ c.args.pending.now _ (end_line c.args.total) (rw c.end_line-len.ensures.text at c.in-Ok.ensures) c.flush.ensures.sent

pub returns-in-Err : goal.returns-in-Err
returns-in-Err g c = IsCutShort-longer (end_line c.args.total) c.in-Err.ensures
