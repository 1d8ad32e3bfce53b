use Rattle.std.proofs.Common.{arith}
use Rattle.hs_utf8.proofs.DigitLemmas.{run_end-whole}
use Rattle.hs_utf8.proofs.runs.+run_end.Goals as goal

pub returns-then-first-end : goal.returns-then-first-end
returns-then-first-end t c =
    run_end-whole c.args.tail c.args.first c.args.end c.run_end.result c.if-tail-eq0.false c.if-first-eq0.true (omega (arith, c.if-first-end.true))
    c.run_end.ensures
