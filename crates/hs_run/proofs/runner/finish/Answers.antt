use Rattle.std.proofs.Common.{◌≡◌, ◌-◌, ◌++◌, length, ap, subst, ◌∙◌, arith}
use Rattle.std.specs.Vec.{with_items}
use Rattle.std.proofs.lemmas.List.{with_items_is}
use Rattle.hs_reports.specs.Events.{Through}
use Rattle.hs_run.specs.Keeping.{AreRead}
use Rattle.hs_run.specs.Reporting.{pairs_at}
use Rattle.hs_run.specs.declared.reporting.Moment.TheVariants.{BeforeLastByte, AtEnd}
use Rattle.hs_reports.proofs.EventLemmas.{through-join}
use Rattle.hs_run.proofs.FeedLemmas.{end-finishes, finishes-alike}
use Rattle.hs_run.proofs.LayoutLemmas.{apart}
use Rattle.hs_run.proofs.ReportingLemmas.{through-same}
use Rattle.hs_run.proofs.runner.finish.Goals as goal

pub of-spot-requires-clause-there : goal.of-spot-requires-clause-there
of-spot-requires-clause-there g c =
    let header = (apart c.args.program.now c.args.layout.now c.requires.layout).header in
    omega (arith, header, c.requires.region.sized)

pub returns-clause-taken : goal.returns-clause-taken
returns-clause-taken g c =
    let program = c.args.program.now in
    let ids = program.identifiers in
    let ks = c.read_kept.new.kept in
    let es = c.end_chains.new.ends in
    let is_ends : (with_items c.args.scratch.now.ends es).items ≡ es = with_items_is c.args.scratch.now.ends es (c.end_chains.ensures.ends ∙ c.deref_mut-2.ensures.len) in
    let is_kept : (with_items c.args.scratch.now.kept ks).items ≡ ks = with_items_is c.args.scratch.now.kept ks (c.read_kept.ensures.len ∙ c.deref_mut-3.ensures.len) in
    let at = c.of-spot.result.at in
    let same = c.identifiers-identifiers.ensures in
    let first : Through g.V.Events.tells c.args.events.now (pairs_at BeforeLastByte ids ks es (at - 1)) c.report.new.events =
    subst (λ n. Through g.V.Events.tells c.args.events.now (pairs_at BeforeLastByte ids ks es n) c.report.new.events) c.saturating_sub.ensures
    (through-same g.V.Events.tells c.args.events.now c.report.new.events BeforeLastByte c.identifiers-identifiers.result.now ids c.deref.result.now ks c.deref-2.result.now es c.saturating_sub.result same (c.deref.ensures.value ∙ is_kept) (c.deref-2.ensures.value ∙ is_ends) c.report.ensures) in
    let second : Through g.V.Events.tells c.report.new.events (pairs_at AtEnd ids ks es at) c.report-2.new.events =
    through-same g.V.Events.tells c.report.new.events c.report-2.new.events AtEnd c.identifiers-identifiers.result.now ids c.deref-3.result.now ks c.deref-4.result.now es at same (c.deref-3.ensures.value ∙ is_kept) (c.deref-4.ensures.value ∙ is_ends) c.report-2.ensures in
    record {
      pairs = pairs_at BeforeLastByte ids ks es (at - 1) ++ pairs_at AtEnd ids ks es at;
      through = through-join g.V.Events.tells first second;
      holds =
          end-finishes c.args.program.now c.args.layout.now c.requires.layout c.of-spot.result c.args.region.now ks es c.of-spot.ensures.stands c.end_chains.ensures.about
          (subst (λ xs. AreRead c.args.layout.now c.args.region.now xs ks) same c.read_kept.ensures.read) (c.read_kept.ensures.len ∙ (ap length c.deref_mut-3.ensures.value ∙ c.requires.scratch.kept)) (c.end_chains.ensures.ends ∙ (ap length c.deref_mut-2.ensures.value ∙ c.requires.scratch.ends));
    }

pub returns-clause-alike : goal.returns-clause-alike
returns-clause-alike g c =
    let taken = returns-clause-taken g c in finishes-alike c.args.program.now c.args.region.now taken.pairs taken.holds

pub returns-clause-ticks : goal.returns-clause-ticks
returns-clause-ticks g c = c.end_chains.ensures.ticks
