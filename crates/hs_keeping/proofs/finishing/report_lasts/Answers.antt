use Rattle.std.proofs.Common.{get_or, ◌+◌, ◌*◌}
use Rattle.std.proofs.lemmas.Option.{slice_get-get_or}
use Rattle.hs_base.specs.Bits.{has_bit}
use Rattle.hs_base.specs.Regions.{last_at}
use Rattle.hs_reports.specs.Events.{still}
use Rattle.hs_keeping.specs.Finishing.{no_identifier}
use Rattle.hs_keeping.proofs.FinishingLemmas.{through-identifier, through-identifiers}
use Rattle.hs_keeping.proofs.finishing.report_lasts.Goals as goal

pub loop-p-init : goal.loop-p-init
loop-p-init g c = still

pub loop-p-preserved : goal.loop-p-preserved
loop-p-preserved g c =
    through-identifier g.V.Events.tells c.args.identifiers.now (λ p. has_bit c.args.region.now (8 * last_at c.args.layout.now.singles c.args.layout.now.identifiers + p)) c.args.to c.loop-p.p (get_or c.args.identifiers.now c.loop-p.p no_identifier) c.final_bit.result
    (slice_get-get_or c.args.identifiers.now c.loop-p.p no_identifier c.loop-p-test.true) c.final_bit.ensures c.loop-p.invariant c.report_if.ensures

pub returns : goal.returns
returns g c = through-identifiers g.V.Events.tells c.args.identifiers.now (λ p. has_bit c.args.region.now (8 * last_at c.args.layout.now.singles c.args.layout.now.identifiers + p)) c.args.to c.loop-p.p c.loop-p-test.false c.loop-p.invariant
