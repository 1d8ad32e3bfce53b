use Rattle.std.proofs.Common.{arith}
use Rattle.hs_rose.proofs.MakeLemmas.{no-null}
use Rattle.hs_rose.proofs.making.repeat_null.Goals as goal

pub returns-else-least-eq0 : goal.returns-else-least-eq0
returns-else-least-eq0 c set greatest u next = no-null c.empty.result set c.args.least greatest (omega arith) c.empty.ensures u next
