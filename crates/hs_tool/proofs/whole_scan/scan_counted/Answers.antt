use Rattle.std.proofs.Common.{refl}
use Rattle.hs_outside.proofs.Sending.{Took-nothing}
use Rattle.hs_stream.proofs.StandLemmas.{fresh-stands}
use Rattle.hs_tool.specs.Answers.{stopped}
use Rattle.hs_lists.proofs.EndingLemmas.{no_memory_early}
use Rattle.hs_tool.proofs.AnswerLemmas.{scan_stops, scan_done, scan_unwritten}
use Rattle.hs_tool.proofs.whole_scan.scan_counted.Goals as goal

pub returns-in-Err-clause-ends : goal.returns-in-Err-clause-ends
returns-in-Err-clause-ends g c kind list entries P has is = stopped _ (no_memory_early kind list _ _ (Took-nothing (g.O.Sink.written c.args.out.now)) (record { store = refl; sink = refl }))

pub returns-in-Err-new-clause-ends : goal.returns-in-Err-new-clause-ends
returns-in-Err-new-clause-ends g c kind list entries P has is = stopped _ (no_memory_early kind list _ _ (Took-nothing (g.O.Sink.written c.args.out.now)) (record { store = refl; sink = refl }))

pub returns-in-Err-scan_file-clause-ends : goal.returns-in-Err-scan_file-clause-ends
returns-in-Err-scan_file-clause-ends g c kind list entries P has is =
    let scan = c.in-Err-scan_file.ensures in
    scan_stops c.args.database.now kind list c.args.file.now.name.now _ _ entries P c.in-Ok.stream c.new-pending.result c.in-Err-scan_file.fault
    c.new-pending.ensures has (fresh-stands c.args.database.now P c.in-Ok.stream is c.in-Ok.ensures.fresh) scan.cut scan.fault

pub returns-in-Ok-close_scan-clause-ends : goal.returns-in-Ok-close_scan-clause-ends
returns-in-Ok-close_scan-clause-ends g c kind list entries P has is =
    let scan = c.in-Ok-scan_file.ensures in
    scan_done c.args.database.now kind list c.args.file.now.name.now _ _ entries P c.in-Ok.stream c.scan_file.new.stream (g.O.Sink.written c.scan_file.new.out) (g.O.Sink.faults c.scan_file.new.out) c.new-pending.result c.scan_file.new.pending
    c.new-pending.ensures has (fresh-stands c.args.database.now P c.in-Ok.stream is c.in-Ok.ensures.fresh) scan.scanned c.in-Ok-close_scan.ensures scan.counted

pub returns-clause-ends : goal.returns-clause-ends
returns-clause-ends g c kind list entries P has is =
    let scan = c.in-Ok-scan_file.ensures in
    scan_unwritten c.args.database.now kind list c.args.file.now.name.now _ _ entries P c.in-Ok.stream c.scan_file.new.stream (g.O.Sink.written c.scan_file.new.out) (g.O.Sink.faults c.scan_file.new.out) c.new-pending.result c.scan_file.new.pending
    c.new-pending.ensures has (fresh-stands c.args.database.now P c.in-Ok.stream is c.in-Ok.ensures.fresh) scan.scanned c.in-Err-close_scan.ensures
