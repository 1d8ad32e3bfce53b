use Rattle.std.proofs.Common.{◌≡◌, ◌<◌, ◌≤◌, true, false, length, arith}
use Rattle.hs_nodes.specs.Lone.{is_spent_node}
use Rattle.hs_scan.proofs.SpendingLemmas.{none-spent, open-long}
use Rattle.hs_scan.proofs.running.spent_in.Goals as goal

pub returns-then-is_empty-clause-fewer : goal.returns-then-is_empty-clause-fewer
returns-then-is_empty-clause-fewer c k asked = none-spent c.args.lone.now k

pub returns-clause-fewer : goal.returns-clause-fewer
returns-clause-fewer c k asked = open-long (length c.args.chunk.now.bytes.now) (is_spent_node c.args.lone.now c.args.told.now k) (omega arith) asked
