use Rattle.std.proofs.Common.{rules, refl, sym, subst, [], ◌∷◌, Some}
use Rattle.hs_script.specs.Actions.{Reset}
use Rattle.hs_tool.specs.OpenStreams.{PerformsStill}
use Rattle.hs_lines.proofs.PrintLemmas.{wrote, printed-all, printed-part}
use Rattle.hs_tool.proofs.session.Session.tell_reset.Goals as goal

pub shape_of-self : goal.shape_of-self
shape_of-self g c =
    let taken = c.reset-reply.ensures.performs in
    sym (wrote g.O.Sink.written g.O.Sink.faults _ taken.pairs c.reset-reply.new.events refl taken.through).same_pending

pub shape_of-self-2 : goal.shape_of-self-2
shape_of-self-2 g c =
    let taken = c.reset-reply.ensures.performs in
    sym (wrote g.O.Sink.written g.O.Sink.faults _ taken.pairs c.reset-reply.new.events refl taken.through).same_out

pub returns-then-lines-clause-failed : goal.returns-then-lines-clause-failed
returns-then-lines-clause-failed g c =
    let taken = c.reset-reply.ensures.performs in
    let lines = wrote g.O.Sink.written g.O.Sink.faults _ taken.pairs c.reset-reply.new.events refl taken.through in
    let rose = (printed-part lines.printed c.if-lines.true).failed in
    search (rules, rose)

pub returns-then-lines-clause-told : goal.returns-then-lines-clause-told
returns-then-lines-clause-told g c =
    let taken = c.reset-reply.ensures.performs in
    let lines = wrote g.O.Sink.written g.O.Sink.faults _ taken.pairs c.reset-reply.new.events refl taken.through in
    let part = rw c.copied.ensures at (printed-part lines.printed c.if-lines.true).cut in
    record {
      pairs = taken.pairs;
      reply = c.reset-reply.result;
      is = tt;
      performs = subst (λ n. PerformsStill c.args.self.now.db.now c.args.streams.now c.reset-reply.new.self (Reset n ∷ []) (record { reports = taken.pairs; reply = Some c.reset-reply.result } ∷ [])) c.as_slice.ensures.bytes taken.holds;
      sends = search (rules, part);
    }

pub returns-else-lines-clause-counted : goal.returns-else-lines-clause-counted
returns-else-lines-clause-counted g c =
    let taken = c.reset-reply.ensures.performs in
    let lines = wrote g.O.Sink.written g.O.Sink.faults _ taken.pairs c.reset-reply.new.events refl taken.through in
    let counted = (printed-all lines.printed c.if-lines.false).counted in
    search (rules, counted)

pub returns-else-lines-clause-told : goal.returns-else-lines-clause-told
returns-else-lines-clause-told g c =
    let taken = c.reset-reply.ensures.performs in
    let lines = wrote g.O.Sink.written g.O.Sink.faults _ taken.pairs c.reset-reply.new.events refl taken.through in
    let all = rw c.copied.ensures at (printed-all lines.printed c.if-lines.false).passed in
    record {
      pairs = taken.pairs;
      reply = c.reset-reply.result;
      is = refl;
      performs = subst (λ n. PerformsStill c.args.self.now.db.now c.args.streams.now c.reset-reply.new.self (Reset n ∷ []) (record { reports = taken.pairs; reply = Some c.reset-reply.result } ∷ [])) c.as_slice.ensures.bytes taken.holds;
      sends = search (rules, all);
    }
