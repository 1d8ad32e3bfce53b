use Rattle.std.proofs.Common.{sym, subst}
use Rattle.hs_reports.specs.Events.{Takes}
use Rattle.hs_stream.specs.Foreign.{MayEnd}
use Rattle.hs_stream.specs.Leading.{IsRegionOf}
use Rattle.hs_stream.proofs.stream.Stream.close.Goals as goal

pub end_packed-requires-clause-kept : goal.end_packed-requires-clause-kept
end_packed-requires-clause-kept g c = subst (IsRegionOf c.args.db.now) (sym c.deref.ensures.value) c.requires.fits.region

pub returns-clause-any : goal.returns-clause-any
returns-clause-any g c =
    let took = subst (λ bs. Takes g.V.Events.tells c.args.events.now c.end_packed.new.events (MayEnd c.args.db.now bs)) c.deref.ensures.value c.end_packed.ensures.told in
    record { pairs = took.pairs; through = took.through; holds = record { closes = took.holds.ends; tells = took.holds.tells } }

pub returns-clause-told : goal.returns-clause-told
returns-clause-told g c =
    let took = returns-clause-any g c in
    record { pairs = took.pairs; through = took.through; holds = took.holds.closes }

pub returns-clause-ticks : goal.returns-clause-ticks
returns-clause-ticks g c = c.end_packed.ensures.ticks
