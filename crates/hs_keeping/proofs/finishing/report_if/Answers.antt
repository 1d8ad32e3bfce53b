use Rattle.hs_reports.proofs.EventLemmas.{through-one, through-no}
use Rattle.hs_keeping.proofs.finishing.report_if.Goals as goal

pub returns-then-is_due : goal.returns-then-is_due
returns-then-is_due g c = through-one g.V.Events.tells c.args.is_due c.args.id.0 c.args.to c.args.events.now c.report.new.self c.if-is_due.true c.report.ensures

pub returns-else-is_due : goal.returns-else-is_due
returns-else-is_due g c = through-no g.V.Events.tells c.args.is_due c.args.id.0 c.args.to c.args.events.now c.if-is_due.false
