use Rattle.std.proofs.Common.{arith}
use Rattle.hs_support.proofs.WalkLemmas.{no_run-leads, one_byte-leads, rest-leads}
use Rattle.hs_support.proofs.walk.Walk.run_ended.Goals as goal

pub returns-then-self-eq0 : goal.returns-then-self-eq0
returns-then-self-eq0 c xs cut answer size leads =
    no_run-leads c.args.self.found c.args.self.count xs cut answer (omega (arith, size, c.if-self-eq0.true)) leads

pub returns-then-self-eq1 : goal.returns-then-self-eq1
returns-then-self-eq1 c xs cut answer size leads =
    one_byte-leads c.args.self.found c.args.self.count c.saturating_add.result xs cut answer (omega (arith, size, c.if-self-eq1.true))
    c.saturating_add.ensures leads

pub returns : goal.returns
returns c xs cut answer size leads =
    rest-leads c.args.self.found c.first_excess.result c.args.self.count xs cut answer
    (omega (arith, size, c.if-self-eq0.false, c.if-self-eq1.false)) c.first_excess.ensures leads
