use Rattle.std.proofs.Common.{◌∙◌, true, false, Err, refl, sym, subst, arith}
use Rattle.hs_stream.specs.Caches.{IsCacheOf}
use Rattle.hs_tool.specs.OpenStreams.{AreStreamsOf, kept}
use Rattle.hs_tool.specs.ScriptCommands.{StoreCounts}
use Rattle.hs_tool.proofs.SaveLemmas.{keeps-same, keeps-join, may-save}
use Rattle.hs_tool.proofs.OpenLemmas.{no_stream}
use Rattle.hs_tool.proofs.ServeLemmas.{SoFar, fresh, so_far-start, so_far-next, so_far-sent, so_far-numbered, so_far-same, line-long}
use Rattle.hs_tool.proofs.EndLemmas.{ends-same, ends-complete, ends-unread, ends-by, ends-lost, line-none, line-one}
use Rattle.hs_tool.proofs.session.Session.run_script.Goals as goal

pub loop-streams-init : goal.loop-streams-init
loop-streams-init g c = record {
  so_far =
      subst (λ r. SoFar c.args.self.now.db.now 1 (g.I.Source.left c.args.self.now.input.now) (g.I.Source.left c.args.self.now.input.now) fresh r (g.S.Store.told c.args.self.now.store.now) (kept c.new-streams.result (g.S.Store.told c.args.self.now.store.now))
      (g.O.Sink.written c.args.self.now.out.now) (g.O.Sink.written c.args.self.now.out.now) c.args.self.now.pending c.args.self.now.pending false) (sym c.requires.unread)
      (so_far-start c.args.self.now.db.now (g.I.Source.left c.args.self.now.input.now) fresh (g.S.Store.told c.args.self.now.store.now) c.new-streams.result (g.O.Sink.written c.args.self.now.out.now) c.args.self.now.pending c.new-streams.ensures.none c.new-streams.ensures.count);
  same_db = refl;
  same_store = refl;
  same_input = refl;
  same_out = refl;
  kept_files = keeps-same refl;
  stored = refl;
  fits = λ name stream at. absurd (no_stream (sym (c.new-streams.ensures.none name) ∙ at));
  cache = c.requires.cache;
  counted = record { source = refl; sink = refl };
}

pub returns-in-Ok-false-clause-ends : goal.returns-in-Ok-false-clause-ends
returns-in-Ok-false-clause-ends g c =
    ends-same c.loop-streams.invariant.same_db (ends-complete c.loop-streams.invariant.so_far (line-none (g.I.Source.left c.loop-streams.self.input.now) (g.I.Source.left c.read_line.new.input) c.loop-streams.self.reader c.read_line.new.self c.read_line.new.line c.in-Ok-false.field-0-test c.in-Ok-false.ensures.read))

pub returns-in-Err-clause-ends : goal.returns-in-Err-clause-ends
returns-in-Err-clause-ends g c =
    ends-same c.loop-streams.invariant.same_db (ends-unread c.in-Err.stop _ _ c.loop-streams.invariant.so_far c.in-Err.ensures.read c.in-Err.ensures.broken c.in-Err.ensures.counts)

pub returns-in-Err-run_line-clause-ends : goal.returns-in-Err-run_line-clause-ends
returns-in-Err-run_line-clause-ends g c =
    let line = line-one (g.I.Source.left c.loop-streams.self.input.now) (g.I.Source.left c.read_line.new.input) c.loop-streams.self.reader c.read_line.new.self c.read_line.new.line c.in-Ok-true.field-0-test c.in-Ok-true.ensures.read in
    ends-same c.loop-streams.invariant.same_db (ends-by (g.I.Source.left c.run_line.new.self.input.now) c.run_line.new.self.reader (kept c.run_line.new.streams (g.S.Store.told c.run_line.new.self.store.now)) (g.O.Sink.written c.run_line.new.self.out.now) c.run_line.new.self.pending c.loop-streams.invariant.so_far line c.in-Err-run_line.stop (c.in-Err-run_line.ensures.runs line.line line.keeps) c.in-Err-run_line.ensures.leaves)

pub loop-streams-smaller : goal.loop-streams-smaller
loop-streams-smaller g c =
    let line = line-one (g.I.Source.left c.loop-streams.self.input.now) (g.I.Source.left c.read_line.new.input) c.loop-streams.self.reader c.read_line.new.self c.read_line.new.line c.in-Ok-true.field-0-test c.in-Ok-true.ensures.read in
    let runs = c.in-Ok.ensures.runs line.line line.keeps in
    omega (arith, line-long line, runs.consumes.here, c.in-Ok-true.ensures.small)

pub loop-streams-preserved : goal.loop-streams-preserved
loop-streams-preserved g c =
    let keeps = c.run_line.ensures.keeps in
    let line = line-one (g.I.Source.left c.loop-streams.self.input.now) (g.I.Source.left c.read_line.new.input) c.loop-streams.self.reader c.read_line.new.self c.read_line.new.line c.in-Ok-true.field-0-test c.in-Ok-true.ensures.read in
    let runs = c.in-Ok.ensures.runs line.line line.keeps in
    record {
      so_far = so_far-same (sym keeps.stays.same_db) (so_far-numbered (omega arith) (so_far-sent false (so_far-next false c.loop-streams.invariant.so_far line runs) c.in-Ok-answer_now.ensures.sends));
      same_db = keeps.stays.same_db ∙ c.loop-streams.invariant.same_db;
      same_store = keeps.stays.same_store ∙ c.loop-streams.invariant.same_store;
      same_input = keeps.stays.same_input ∙ c.loop-streams.invariant.same_input;
      same_out = keeps.stays.same_out ∙ c.loop-streams.invariant.same_out;
      kept_files = keeps-join c.loop-streams.invariant.kept_files (λ name saves. may-save c.loop-streams.invariant.so_far line name saves) (c.run_line.ensures.files line.line line.keeps);
      stored = c.in-Ok.ensures.stored ∙ c.loop-streams.invariant.stored;
      fits = subst (λ db. AreStreamsOf db c.run_line.new.streams) (sym keeps.stays.same_db) keeps.fits;
      cache = subst (λ db. IsCacheOf db c.run_line.new.self.cache.now) (sym keeps.stays.same_db) keeps.stays.cache;
      counted = record {
        source = c.in-Ok.ensures.counts.source ∙ (c.in-Ok-true.ensures.counts ∙ c.loop-streams.invariant.counted.source);
        sink = c.in-Ok-answer_now.ensures.counted ∙ (c.in-Ok.ensures.counts.sink ∙ c.loop-streams.invariant.counted.sink);
      };
    }

pub returns-in-Err-answer_now-clause-ends : goal.returns-in-Err-answer_now-clause-ends
returns-in-Err-answer_now-clause-ends g c =
    let line = line-one (g.I.Source.left c.loop-streams.self.input.now) (g.I.Source.left c.read_line.new.input) c.loop-streams.self.reader c.read_line.new.self c.read_line.new.line c.in-Ok-true.field-0-test c.in-Ok-true.ensures.read in
    let runs = c.in-Ok.ensures.runs line.line line.keeps in
    ends-same c.loop-streams.invariant.same_db (ends-lost (so_far-sent true (so_far-next false c.loop-streams.invariant.so_far line runs) c.in-Err-answer_now.ensures.sends))

pub returns-in-Err-run_line-clause-kept : goal.returns-in-Err-run_line-clause-kept
returns-in-Err-run_line-clause-kept g c =
    let line = line-one (g.I.Source.left c.loop-streams.self.input.now) (g.I.Source.left c.read_line.new.input) c.loop-streams.self.reader c.read_line.new.self c.read_line.new.line c.in-Ok-true.field-0-test c.in-Ok-true.ensures.read in
    keeps-join c.loop-streams.invariant.kept_files (λ name saves. may-save c.loop-streams.invariant.so_far line name saves) (c.run_line.ensures.files line.line line.keeps)

pub returns-in-Err-run_line-clause-stored : goal.returns-in-Err-run_line-clause-stored
returns-in-Err-run_line-clause-stored g c =
    subst (λ n. StoreCounts n (g.S.Store.faults c.run_line.new.self.store.now) (Err c.in-Err-run_line.stop)) c.loop-streams.invariant.stored c.in-Err-run_line.ensures.stored

pub returns-in-Err-answer_now-clause-kept : goal.returns-in-Err-answer_now-clause-kept
returns-in-Err-answer_now-clause-kept g c =
    let line = line-one (g.I.Source.left c.loop-streams.self.input.now) (g.I.Source.left c.read_line.new.input) c.loop-streams.self.reader c.read_line.new.self c.read_line.new.line c.in-Ok-true.field-0-test c.in-Ok-true.ensures.read in
    keeps-join c.loop-streams.invariant.kept_files (λ name saves. may-save c.loop-streams.invariant.so_far line name saves) (c.run_line.ensures.files line.line line.keeps)

pub returns-in-Err-answer_now-clause-stored : goal.returns-in-Err-answer_now-clause-stored
returns-in-Err-answer_now-clause-stored g c = c.in-Ok.ensures.stored ∙ c.loop-streams.invariant.stored
