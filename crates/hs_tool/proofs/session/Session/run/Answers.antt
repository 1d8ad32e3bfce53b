use Rattle.std.proofs.Common.{subst}
use Rattle.hs_tool.proofs.EndLemmas.{EndsWaiting, ends-flushed, counts-flushed, stored-flushed}
use Rattle.hs_tool.proofs.session.Session.run.Goals as goal

pub returns-clause-ends : goal.returns-clause-ends
returns-clause-ends g c =
    ends-flushed
    (subst (λ l. EndsWaiting c.args.self.now.db.now (g.S.Store.told c.args.self.now.store.now) (g.S.Store.told c.run_script-ended.new.self.store.now) (g.I.Source.left c.args.self.now.input.now) (g.I.Source.left c.run_script-ended.new.self.input.now) (g.O.Sink.written c.args.self.now.out.now) (g.O.Sink.written c.run_script-ended.new.self.out.now) l c.run_script-ended.new.self.pending c.run_script-ended.result) c.requires.unanswered c.run_script-ended.ensures.ends)
    c.flush.ensures

pub returns-clause-counts : goal.returns-clause-counts
returns-clause-counts g c =
    counts-flushed (g.I.Source.faults c.args.self.now.input.now) (g.I.Source.faults c.run_script-ended.new.self.input.now) (g.O.Sink.faults c.args.self.now.out.now) c.run_script-ended.ensures.counts c.flush.ensures

pub returns-clause-stored : goal.returns-clause-stored
returns-clause-stored g c =
    stored-flushed (g.S.Store.faults c.args.self.now.store.now) (g.S.Store.faults c.run_script-ended.new.self.store.now) c.run_script-ended.ensures.stored c.flush.ensures
