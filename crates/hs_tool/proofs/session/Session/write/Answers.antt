use Rattle.std.proofs.Common.{ap}
use Rattle.hs_tool.proofs.RunLemmas.{write-broken, write-cut, write-lost, write-done, write-other, write-unread}
use Rattle.hs_tool.specs.ScriptCommands.{IsUnkept}
use Rattle.hs_tool.proofs.SaveLemmas.{unfailed-fault}
use Rattle.hs_tool.proofs.session.Session.write.Goals as goal

pub returns-in-Err-clause-runs : goal.returns-in-Err-clause-runs
returns-in-Err-clause-runs g c = λ whole command. write-broken c.args.self.now.db.now c.args.number c.args.streams.now c.take_payload.new.streams (g.S.Store.told c.args.self.now.store.now) (g.S.Store.told c.take_payload.new.self.store.now) (ap (λ s. g.S.Store.told s.now) c.take_payload.ensures.same_files) whole c.args.name.now c.args.count command (IsUnkept whole (g.I.Source.left c.args.self.now.input.now) (g.I.Source.left c.take_payload.new.self.input.now) c.args.self.now.reader c.take_payload.new.self.reader (g.O.Sink.written c.args.self.now.out.now) (g.O.Sink.written c.take_payload.new.self.out.now) c.args.self.now.pending c.take_payload.new.self.pending) c.in-Err.stop c.in-Err.ensures.taken

pub returns-then-not-payload-clause-runs : goal.returns-then-not-payload-clause-runs
returns-then-not-payload-clause-runs g c = λ whole command.
    write-cut c.args.self.now.db.now c.args.number c.args.streams.now c.take_payload.new.streams (g.S.Store.told c.args.self.now.store.now) (g.S.Store.told c.take_payload.new.self.store.now) (ap (λ s. g.S.Store.told s.now) c.take_payload.ensures.same_files) whole c.args.name.now c.args.count command _ (g.O.Sink.written c.write_fault.new.out) c.write_fault.new.pending c.in-Ok.payload c.write_fault.result c.if-not-payload.true c.in-Ok.ensures.taken c.write_fault.ensures.sends

pub returns-in-Err-write_reply-clause-runs : goal.returns-in-Err-write_reply-clause-runs
returns-in-Err-write_reply-clause-runs g c = λ whole command.
    write-lost c.args.self.now.db.now c.args.number c.args.streams.now c.take_payload.new.streams (g.S.Store.told c.args.self.now.store.now) (g.S.Store.told c.take_payload.new.self.store.now) (ap (λ s. g.S.Store.told s.now) c.take_payload.ensures.same_files) whole c.args.name.now c.args.count command (g.O.Sink.written c.write_reply.new.out) c.write_reply.new.pending c.in-Ok.payload c.if-not-payload.false c.in-Ok.ensures.taken c.in-Err-write_reply.ensures.sends

pub returns-in-Ok-true-clause-runs : goal.returns-in-Ok-true-clause-runs
returns-in-Ok-true-clause-runs g c = λ whole command.
    write-done c.args.self.now.db.now c.args.number c.args.streams.now c.take_payload.new.streams (g.S.Store.told c.args.self.now.store.now) (g.S.Store.told c.take_payload.new.self.store.now) (ap (λ s. g.S.Store.told s.now) c.take_payload.ensures.same_files) whole c.args.name.now c.args.count command _ _ _ _ _ _ _ _ _ _ _ _ c.in-Ok.payload c.if-not-payload.false c.in-Ok.ensures.taken c.in-Ok-write_reply.ensures.sends c.in-Ok-true.field-0-test c.in-Ok-true.ensures.taken

pub returns-in-Ok-false-clause-runs : goal.returns-in-Ok-false-clause-runs
returns-in-Ok-false-clause-runs g c = λ whole command.
    write-other c.args.self.now.db.now c.args.number c.args.streams.now c.take_payload.new.streams (g.S.Store.told c.args.self.now.store.now) (g.S.Store.told c.take_payload.new.self.store.now) (ap (λ s. g.S.Store.told s.now) c.take_payload.ensures.same_files) whole c.args.name.now c.args.count command _ _ _ _ _ _ _ _ _ _ _ _ c.in-Ok.payload c.if-not-payload.false c.in-Ok.ensures.taken c.in-Ok-write_reply.ensures.sends _ (g.O.Sink.written c.write_fault-in-Ok-false.new.out) c.write_fault-in-Ok-false.new.pending c.write_fault-in-Ok-false.result c.in-Ok-false.field-0-test c.in-Ok-false.ensures.taken c.write_fault-in-Ok-false.ensures.sends

pub returns-in-Err-take_feed-clause-runs : goal.returns-in-Err-take_feed-clause-runs
returns-in-Err-take_feed-clause-runs g c = λ whole command.
    write-unread c.args.self.now.db.now c.args.number c.args.streams.now c.take_payload.new.streams (g.S.Store.told c.args.self.now.store.now) (g.S.Store.told c.take_payload.new.self.store.now) (ap (λ s. g.S.Store.told s.now) c.take_payload.ensures.same_files) whole c.args.name.now c.args.count command _ _ _ _ _ _ _ _ _ _ _ _ c.in-Ok.payload c.if-not-payload.false c.in-Ok.ensures.taken c.in-Ok-write_reply.ensures.sends (IsUnkept whole (g.I.Source.left c.args.self.now.input.now) (g.I.Source.left c.take_feed.new.input) c.args.self.now.reader c.take_feed.new.self (g.O.Sink.written c.args.self.now.out.now) (g.O.Sink.written c.write_reply.new.out) c.args.self.now.pending c.write_reply.new.pending) c.in-Err-take_feed.stop _ _ c.in-Err-take_feed.ensures.taken c.in-Err-take_feed.ensures.broken c.in-Err-take_feed.ensures.counts

pub returns-then-not-payload-clause-unfailed : goal.returns-then-not-payload-clause-unfailed
returns-then-not-payload-clause-unfailed g c = unfailed-fault _ _ _ _ _ c.write_fault.result c.write_fault.ensures.sends

pub returns-in-Ok-false-clause-unfailed : goal.returns-in-Ok-false-clause-unfailed
returns-in-Ok-false-clause-unfailed g c = unfailed-fault _ _ _ _ _ c.write_fault-in-Ok-false.result c.write_fault-in-Ok-false.ensures.sends
