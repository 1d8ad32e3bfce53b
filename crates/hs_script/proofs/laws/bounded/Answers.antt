use Rattle.std.proofs.Common.{arith}
use Rattle.hs_script.proofs.RunLemmas as runs
use Rattle.hs_script.proofs.laws.bounded.Goals as goal

pub returns : goal.returns
returns c basis files actions answers after r = runs.bounded r (omega arith)
