use Rattle.std.proofs.Common.{sym}
use Rattle.hs_tool.proofs.OpenLemmas.{performs-close, performs-close_unknown, puts-removed, fits-put, takes-weaker, takes-nothing, no_stream}
use Rattle.hs_tool.proofs.session.streams.Streams.close.Goals as goal

pub close_cached-requires-clause-fits : goal.close_cached-requires-clause-fits
close_cached-requires-clause-fits g c = c.requires.fits c.args.name.now c.in-Some.stream (sym c.in-Some.ensures.value)

pub returns-in-None-clause-performs : goal.returns-in-None-clause-performs
returns-in-None-clause-performs g c =
    let removed = c.in-None.ensures in
    takes-nothing (performs-close_unknown c.args.name.now (sym removed.value) (puts-removed _ removed.value removed.updates removed.len))

pub returns-in-Some-clause-fits : goal.returns-in-Some-clause-fits
returns-in-Some-clause-fits g c =
    let removed = c.in-Some.ensures in
    fits-put {old = c.args.self.now} {new = record { map = c.remove.new.self }} c.requires.fits (puts-removed _ removed.value removed.updates removed.len) (λ stream e. absurd (no_stream e))

pub returns-in-Some-clause-performs : goal.returns-in-Some-clause-performs
returns-in-Some-clause-performs g c =
    let removed = c.in-Some.ensures in
    takes-weaker c.close_cached.ensures.any
    (λ pairs ends. performs-close c.args.name.now c.in-Some.stream pairs (sym removed.value) (puts-removed _ removed.value removed.updates removed.len) ends)
