use Rattle.std.proofs.Common.{[], ◌∷◌, Some, sym, subst}
use Rattle.hs_text.specs.Commands as order
use Rattle.hs_script.specs.Actions.{Expand, expand_alone}
use Rattle.hs_reader.proofs.ReadLemmas.{consumes-nothing}
use Rattle.hs_lines.proofs.PassLemmas.{passed-nothing}
use Rattle.hs_tool.specs.OpenStreams.{kept, Performs}
use Rattle.hs_tool.proofs.RunLemmas.{runs-done}
use Rattle.hs_tool.proofs.SaveLemmas.{stored-done}
use Rattle.hs_tool.proofs.session.Session.expand.Goals as goal

pub returns-in-Ok-clause-runs : goal.returns-in-Ok-clause-runs
returns-in-Ok-clause-runs g c = λ whole number command.
    let old = kept c.args.streams.now (g.S.Store.told c.args.self.now.store.now) in
    let new = kept c.expand_file.new.streams (g.S.Store.told c.expand_file.new.store) in
    runs-done _ c.args.self.now.db.now whole number old new (g.I.Source.left c.args.self.now.input.now) c.args.self.now.reader
    c.write_reply.result c.done.ensures command expand_alone
    (record {
      answer = record { reports = []; reply = Some c.in-Ok.reply };
      performs =
          subst (λ f. Performs c.args.self.now.db.now old new (Expand c.args.name.now f ∷ []) (record { reports = []; reply = Some c.in-Ok.reply } ∷ [])) c.path_of-path.ensures
          (subst (λ n. Performs c.args.self.now.db.now old new (Expand n c.path_of-path.result.now ∷ []) (record { reports = []; reply = Some c.in-Ok.reply } ∷ [])) c.as_slice.ensures.bytes c.in-Ok.ensures.performs);
      sends = c.write_reply.ensures.sends;
    })

pub returns-in-Err-clause-runs : goal.returns-in-Err-clause-runs
returns-in-Err-clause-runs g c = λ whole number command. record {
  order = order.Expand c.args.name.now c.args.file.now;
  command = command;
  names_file = tt;
  consumes = consumes-nothing (g.I.Source.left c.args.self.now.input.now) c.args.self.now.reader;
  sends = passed-nothing (g.O.Sink.written c.args.self.now.out.now) c.args.self.now.pending;
}

pub returns-in-Ok-clause-stored : goal.returns-in-Ok-clause-stored
returns-in-Ok-clause-stored g c = stored-done (g.S.Store.faults c.args.self.now.store.now) (g.S.Store.faults c.expand_file.new.store) c.write_reply.result c.done.ensures c.in-Ok.ensures.counted
