use Rattle.std.proofs.Common.{refl}
use Rattle.hs_outside.proofs.Sending.{TookPrefix-longer}
use Rattle.hs_tool.proofs.session.answers.write_fault.Goals as goal

pub returns-in-Ok-clause-sends : goal.returns-in-Ok-clause-sends
returns-in-Ok-clause-sends g c =
    let passes = rw c.script_fault_line-len.ensures.text at c.in-Ok.ensures in
    (refl, passes.passed)

pub returns-in-Err-clause-sends : goal.returns-in-Err-clause-sends
returns-in-Err-clause-sends g c = TookPrefix-longer _ _ c.args.pending.now _ c.in-Err.ensures.cut
