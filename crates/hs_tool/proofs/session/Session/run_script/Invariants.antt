use Rattle.std.proofs.Common.{◌≡◌, ◌-◌, false}
use Rattle.hs_stream.specs.Caches.{IsCacheOf}
use Rattle.hs_reader.specs.Reading.{most_taken}
use Rattle.hs_reader.specs.Breaks.{NoFault}
use Rattle.hs_tool.specs.OpenStreams.{AreStreamsOf, kept}
use Rattle.hs_tool.specs.SavedFiles.{KeepsBut, MaySave}
use Rattle.hs_tool.proofs.ServeLemmas.{SoFar, fresh}
use Rattle.hs_tool.proofs.session.Session.run_script.Given as goal

abbrev pub invariant-loop-streams : goal.invariant-loop-streams
invariant-loop-streams g l = record {
  so_far : SoFar l.self.db.now l.number (g.I.Source.left l.fn.self.input.now) (g.I.Source.left l.self.input.now) fresh l.self.reader (g.S.Store.told l.fn.self.store.now) (kept l.streams (g.S.Store.told l.self.store.now))
      (g.O.Sink.written l.fn.self.out.now) (g.O.Sink.written l.self.out.now) l.fn.self.pending l.self.pending false;
  same_db : l.self.db.now ≡ l.fn.self.db.now;
  same_store : l.self.store.ghost_name ≡ l.fn.self.store.ghost_name;
  same_input : l.self.input.ghost_name ≡ l.fn.self.input.ghost_name;
  same_out : l.self.out.ghost_name ≡ l.fn.self.out.ghost_name;
  kept_files : KeepsBut (MaySave (g.I.Source.left l.fn.self.input.now)) (g.S.Store.told l.fn.self.store.now) (g.S.Store.told l.self.store.now);
  stored : g.S.Store.faults l.self.store.now ≡ g.S.Store.faults l.fn.self.store.now;
  fits : AreStreamsOf l.self.db.now l.streams;
  cache : IsCacheOf l.self.db.now l.self.cache.now;
  counted : NoFault (g.I.Source.faults l.fn.self.input.now) (g.I.Source.faults l.self.input.now) (g.O.Sink.faults l.fn.self.out.now) (g.O.Sink.faults l.self.out.now);
}

abbrev pub decreases-loop-streams : goal.decreases-loop-streams
decreases-loop-streams g l = most_taken - l.self.reader.at
