use Rattle.std.proofs.Common.{get_or}
use Rattle.std.proofs.lemmas.Option.{slice_get-get_or}
use Rattle.hs_keeping.specs.Finishing.{due_at_end}
use Rattle.hs_reports.specs.Events.{still}
use Rattle.hs_keeping.specs.Finishing.{no_identifier}
use Rattle.hs_keeping.proofs.FinishingLemmas.{through-identifier, through-identifiers}
use Rattle.hs_keeping.proofs.finishing.report_ends.Goals as goal

pub loop-p-init : goal.loop-p-init
loop-p-init g c = still

pub loop-p-preserved : goal.loop-p-preserved
loop-p-preserved g c =
    through-identifier g.V.Events.tells c.args.identifiers.now (due_at_end c.args.layout.now c.args.region.now c.args.known.now.told.items c.args.known.now.here.items c.args.finals.now c.args.identifiers.now) c.args.to c.loop-p.p (get_or c.args.identifiers.now c.loop-p.p no_identifier) c.is_due.result
    (slice_get-get_or c.args.identifiers.now c.loop-p.p no_identifier c.loop-p-test.true) c.is_due.ensures c.loop-p.invariant c.report_if.ensures

pub returns : goal.returns
returns g c = through-identifiers g.V.Events.tells c.args.identifiers.now (due_at_end c.args.layout.now c.args.region.now c.args.known.now.told.items c.args.known.now.here.items c.args.finals.now c.args.identifiers.now) c.args.to c.loop-p.p c.loop-p-test.false c.loop-p.invariant
