use Rattle.std.proofs.Common.{is_err, Err, refl, ap}
use Rattle.hs_script.specs.Actions.{close_alone}
use Rattle.hs_tool.specs.OpenStreams.{kept}
use Rattle.hs_tool.proofs.CommandLemmas.{answered, answered-cut}
use Rattle.hs_tool.proofs.SaveLemmas.{unfailed-done}
use Rattle.hs_tool.proofs.RunLemmas.{runs-still}
use Rattle.hs_tool.proofs.session.Session.close.Goals as goal

pub returns-in-Ok-clause-runs : goal.returns-in-Ok-clause-runs
returns-in-Ok-clause-runs g c = λ whole number command.
    runs-still _ c.args.self.now.db.now whole number (kept c.args.streams.now (g.S.Store.told c.args.self.now.store.now)) (kept c.tell_close.new.streams (g.S.Store.told c.tell_close.new.self.store.now)) (g.I.Source.left c.args.self.now.input.now) (g.I.Source.left c.tell_close.new.self.input.now) c.args.self.now.reader c.tell_close.new.self.reader
    c.write_reply.result (ap (λ i. g.I.Source.left i.now) c.tell_close.ensures.same_input) c.tell_close.ensures.same_reader c.done.ensures command close_alone
    (answered (ap (λ s. g.S.Store.told s.now) c.tell_close.ensures.same_files) c.in-Ok.reply (is_err c.write_reply.result) c.in-Ok.ensures.told c.write_reply.ensures.sends)

pub returns-in-Err-clause-runs : goal.returns-in-Err-clause-runs
returns-in-Err-clause-runs g c = λ whole number command.
    runs-still (Unit {0}) c.args.self.now.db.now whole number (kept c.args.streams.now (g.S.Store.told c.args.self.now.store.now)) (kept c.tell_close.new.streams (g.S.Store.told c.tell_close.new.self.store.now)) (g.I.Source.left c.args.self.now.input.now) (g.I.Source.left c.tell_close.new.self.input.now) c.args.self.now.reader c.tell_close.new.self.reader
    (Err _) (ap (λ i. g.I.Source.left i.now) c.tell_close.ensures.same_input) c.tell_close.ensures.same_reader refl command close_alone (answered-cut (ap (λ s. g.S.Store.told s.now) c.tell_close.ensures.same_files) _ c.in-Err.ensures.told)

pub returns-in-Ok-clause-unfailed : goal.returns-in-Ok-clause-unfailed
returns-in-Ok-clause-unfailed g c = unfailed-done c.write_reply.result c.done.ensures
