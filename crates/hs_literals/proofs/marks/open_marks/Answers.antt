use Rattle.std.proofs.Common.{arith}
use Rattle.hs_literals.proofs.OpenLemmas.{marks_are_open}
use Rattle.hs_literals.proofs.marks.open_marks.Goals as goal

pub returns : goal.returns
returns c = marks_are_open c.args.masks.now (omega arith)
