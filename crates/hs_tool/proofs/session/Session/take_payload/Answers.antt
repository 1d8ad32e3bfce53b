use Rattle.std.proofs.Common.{sym, subst}
use Rattle.hs_stream.specs.Streams.{IsStreamOf}
use Rattle.hs_tool.proofs.OpenLemmas.{puts-lent, puts-unchanged, fits-put, same_stream}
use Rattle.hs_tool.proofs.WriteLemmas.{payload-unknown, payload-known}
use Rattle.hs_tool.proofs.session.Session.take_payload.Goals as goal

pub write_payload-requires-clause-fits : goal.write_payload-requires-clause-fits
write_payload-requires-clause-fits g c = c.requires.ready.fits c.as_slice.result.now c.in-Some.stream.now (sym c.in-Some.ensures.value)

pub returns-in-None-clause-taken : goal.returns-in-None-clause-taken
returns-in-None-clause-taken g c =
    payload-unknown c.as_slice.result.now (g.O.Sink.written c.args.self.now.out.now) c.args.self.now.pending c.as_slice.ensures.bytes (sym c.in-None.ensures.value)
    (puts-unchanged (sym c.in-None.ensures.value) c.get_mut.follows.holds-at-none) c.refuse_payload.ensures.refused

pub returns-in-Some-clause-keeps : goal.returns-in-Some-clause-keeps
returns-in-Some-clause-keeps g c = record {
  stays = c.write_payload.ensures.stays;
  fits =
      fits-put {old = c.args.streams.now} {new = record { map = c.get_mut.follows.lender c.write_payload.new.stream }} c.requires.ready.fits
      (puts-lent (sym c.in-Some.ensures.value) (c.get_mut.follows.holds c.write_payload.new.stream))
      (λ stream e. subst (λ s. IsStreamOf c.args.self.now.db.now s) (same_stream e) c.write_payload.ensures.fits);
}

pub returns-in-Some-clause-taken : goal.returns-in-Some-clause-taken
returns-in-Some-clause-taken g c =
    payload-known c.as_slice.result.now c.as_slice.ensures.bytes (sym c.in-Some.ensures.value)
    (puts-lent (sym c.in-Some.ensures.value) (c.get_mut.follows.holds c.write_payload.new.stream)) c.write_payload.ensures.written
