use Rattle.hs_outside.proofs.Sending.{IsCutShort-longer}
use Rattle.hs_text.specs.AnswerLines.{size_lines}
use Rattle.hs_lists.proofs.InfoLemmas.{sends-then}
use Rattle.hs_lists.proofs.info_command.write_info.Goals as goal

pub returns-in-Ok : goal.returns-in-Ok
returns-in-Ok g c =
    sends-then (g.O.Sink.written c.write_sizes.new.out) (g.O.Sink.faults c.write_sizes.new.out) (size_lines c.args.region c.args.state) c.write_sizes.result (rw c.info_lines-len.ensures.text at c.in-Ok.ensures) c.write_sizes.ensures

pub returns-in-Err : goal.returns-in-Err
returns-in-Err g c = IsCutShort-longer _ (rw c.info_lines-len.ensures.text at c.in-Err.ensures)
