use Rattle.std.proofs.Common.{[], ◌∷◌, Some, refl, subst}
use Rattle.hs_script.specs.Actions.{Open, open_alone}
use Rattle.hs_tool.specs.OpenStreams.{kept, PerformsStill}
use Rattle.hs_tool.proofs.CommandLemmas.{over}
use Rattle.hs_tool.proofs.RunLemmas.{runs-done}
use Rattle.hs_tool.proofs.SaveLemmas.{unfailed-done}
use Rattle.hs_tool.proofs.session.Session.open.Goals as goal

pub returns-clause-runs : goal.returns-clause-runs
returns-clause-runs g c = λ whole number command.
    let told = g.S.Store.told c.args.self.now.store.now in
    runs-done _ c.args.self.now.db.now whole number (kept c.args.streams.now told) (kept c.open-reply.new.self told) (g.I.Source.left c.args.self.now.input.now) c.args.self.now.reader
    c.write_reply.result c.done.ensures command open_alone
    (record {
      answer = record { reports = []; reply = Some c.open-reply.result };
      performs = over refl (subst (λ n. PerformsStill c.args.self.now.db.now c.args.streams.now c.open-reply.new.self (Open n ∷ []) (record { reports = []; reply = Some c.open-reply.result } ∷ [])) c.as_slice.ensures.bytes c.open-reply.ensures.performs);
      sends = c.write_reply.ensures.sends;
    })

pub returns-clause-unfailed : goal.returns-clause-unfailed
returns-clause-unfailed g c = unfailed-done c.write_reply.result c.done.ensures
