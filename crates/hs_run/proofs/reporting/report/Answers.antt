use Rattle.std.proofs.Common.{ℕ, get_or, sym, subst, arith}
use Rattle.std.proofs.lemmas.Option.{slice_get-get_or}
use Rattle.std.proofs.lemmas.List.{length-map}
use Rattle.hs_base.proofs.PairListLemmas.{one_told, pairs-all}
use Rattle.hs_rose.specs.declared.identifiers.Identifier.{Identifier}
use Rattle.hs_rose.specs.Identifiers.{ids_of}
use Rattle.hs_run.specs.declared.ends.Ends.{Ends as EndsAbout}
use Rattle.hs_run.specs.declared.kept.Kept.{Kept as KeptOf}
use Rattle.hs_reports.specs.Events.{Through, still}
use Rattle.hs_run.specs.Reporting.{tells, told_values}
use Rattle.hs_run.specs.Ends.{ends_of, no_ends}
use Rattle.hs_run.specs.Keeping.{plain_kept}
use Rattle.hs_reports.proofs.EventLemmas.{through-join}
use Rattle.hs_run.proofs.ReportingLemmas.{no_identifier, nothing, pairs-more}
use Rattle.hs_run.proofs.reporting.report.Goals as goal

pub loop-i-init : goal.loop-i-init
loop-i-init g c = still

pub loop-i-preserved : goal.loop-i-preserved
loop-i-preserved g c =
    let i : ℕ = c.loop-i.i in
    let xs = c.args.identifiers.now in
    let ks = c.args.kept.now in
    let es = c.args.ends.now in
    let x : Identifier = get_or xs i no_identifier in
    let k : KeptOf = get_or ks i nothing in
    let e : EndsAbout = get_or es i no_ends in
    let told : Through g.V.Events.tells c.loop-i.events (one_told (tells c.args.moment x.single (plain_kept k) (ends_of e)) x.id.0 c.args.to) c.report_if.new.events =
    subst (λ v. Through g.V.Events.tells c.loop-i.events (one_told v x.id.0 c.args.to) c.report_if.new.events) c.tells-is_due.ensures c.report_if.ensures in
    subst (λ ps. Through g.V.Events.tells c.args.events.now ps c.report_if.new.events)
    (sym (pairs-more c.args.moment xs ks es c.args.to i x k e (slice_get-get_or xs i no_identifier c.loop-i-test.true) (slice_get-get_or ks i nothing (omega (arith, c.requires.kept, c.loop-i-test.true))) (slice_get-get_or es i no_ends (omega (arith, c.requires.ends, c.loop-i-test.true)))))
    (through-join g.V.Events.tells c.loop-i.invariant told)

pub returns : goal.returns
returns g c =
    let xs = c.args.identifiers.now in
    subst (λ ps. Through g.V.Events.tells c.args.events.now ps c.loop-i.events)
    (pairs-all (ids_of xs) (told_values c.args.moment xs c.args.kept.now c.args.ends.now) c.args.to c.loop-i.i (omega (arith, length-map xs (λ y. y.id.0))))
    c.loop-i.invariant
