use Rattle.std.proofs.Common.{sym, subst}
use Rattle.hs_stream.specs.Streams.{IsStreamOf}
use Rattle.hs_tool.proofs.OpenLemmas.{performs-reset, performs-reset_unknown, puts-lent, puts-unchanged, fits-put, takes-weaker, takes-nothing, same_stream}
use Rattle.hs_tool.proofs.session.streams.Streams.reset.Goals as goal

pub reset_cached-requires-clause-fits : goal.reset_cached-requires-clause-fits
reset_cached-requires-clause-fits g c = c.requires.fits c.args.name.now c.in-Some.stream.now (sym c.in-Some.ensures.value)

pub returns-in-None-clause-performs : goal.returns-in-None-clause-performs
returns-in-None-clause-performs g c =
    takes-nothing (performs-reset_unknown c.args.name.now (sym c.in-None.ensures.value) (puts-unchanged (sym c.in-None.ensures.value) c.get_mut.follows.holds-at-none))

pub returns-in-Some-clause-fits : goal.returns-in-Some-clause-fits
returns-in-Some-clause-fits g c =
    fits-put {old = c.args.self.now} {new = record { map = c.get_mut.follows.lender c.reset_cached.new.self }} c.requires.fits (puts-lent (sym c.in-Some.ensures.value) (c.get_mut.follows.holds c.reset_cached.new.self))
    (λ stream e. subst (λ s. IsStreamOf c.args.db.now s) (same_stream e) c.reset_cached.ensures.fits)

pub returns-in-Some-clause-performs : goal.returns-in-Some-clause-performs
returns-in-Some-clause-performs g c =
    takes-weaker c.reset_cached.ensures.any
    (λ pairs ends. performs-reset c.args.name.now c.in-Some.stream.now c.reset_cached.new.self pairs (sym c.in-Some.ensures.value)
    (puts-lent (sym c.in-Some.ensures.value) (c.get_mut.follows.holds c.reset_cached.new.self)) c.reset_cached.ensures.fresh ends)
