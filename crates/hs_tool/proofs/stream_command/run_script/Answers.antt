use Rattle.std.proofs.Common.{Ok, Err, refl, subst}
use Rattle.hs_outside.proofs.Sending.{Took-nothing}
use Rattle.hs_tool.specs.Answers
use Rattle.hs_tool.specs.SavedFiles.{KeepsBut, MaySave}
use Rattle.hs_tool.specs.Serving.{EndStored}
use Rattle.hs_lists.specs.Loading.{entries_of}
use Rattle.hs_lists.proofs.EndingLemmas.{has_list}
use Rattle.hs_tool.proofs.SaveLemmas.{keeps-same}
use Rattle.hs_tool.proofs.StreamLemmas.{runs_each, has_database, ends_told, stream_ends, stream_stops}
use Rattle.hs_tool.proofs.stream_command.run_script.Goals as goal

pub returns-in-Err-clause-ends : goal.returns-in-Err-clause-ends
returns-in-Err-clause-ends g c = Answers.stopped _ (record { stops = c.in-Err.ensures.fault; quiet = Took-nothing (g.O.Sink.written c.args.out.now); still = refl }) refl c.load.ensures.kept

pub returns-in-Ok-serve-clause-ends : goal.returns-in-Ok-serve-clause-ends
returns-in-Ok-serve-clause-ends g c =
    let loaded = c.in-Ok.ensures.loaded in
    stream_ends c.in-Ok.loaded.database c.args.database.now _ _ _ _ (entries_of c.in-Ok.loaded) loaded.patterns
    (has_database loaded (has_list _ _ c.in-Ok.loaded loaded)) (runs_each loaded) (Ok tt)
    (ends_told c.load.ensures.kept c.in-Ok-serve.ensures.ends) c.in-Ok-serve.ensures.counts
    (subst (λ n. EndStored n (g.S.Store.faults c.serve.new.store) (Ok tt)) c.in-Ok.ensures.counted c.in-Ok-serve.ensures.stored)

pub returns-clause-ends : goal.returns-clause-ends
returns-clause-ends g c =
    let loaded = c.in-Ok.ensures.loaded in
    stream_stops c.in-Ok.loaded.database c.args.database.now _ _ _ _ (entries_of c.in-Ok.loaded) loaded.patterns
    (has_database loaded (has_list _ _ c.in-Ok.loaded loaded)) (runs_each loaded) c.in-Err-serve.stop _ c.fault_of.ensures
    (ends_told c.load.ensures.kept c.in-Err-serve.ensures.ends) c.in-Err-serve.ensures.counts
    (subst (λ n. EndStored n (g.S.Store.faults c.serve.new.store) (Err c.in-Err-serve.stop)) c.in-Ok.ensures.counted c.in-Err-serve.ensures.stored)

pub returns-in-Err-clause-kept : goal.returns-in-Err-clause-kept
returns-in-Err-clause-kept g c = keeps-same c.load.ensures.kept

pub returns-in-Ok-serve-clause-kept : goal.returns-in-Ok-serve-clause-kept
returns-in-Ok-serve-clause-kept g c =
    subst (λ t. KeepsBut (MaySave (g.I.Source.left c.args.input.now)) t (g.S.Store.told c.serve.new.store)) c.load.ensures.kept c.serve.ensures.kept

pub returns-clause-kept : goal.returns-clause-kept
returns-clause-kept g c =
    subst (λ t. KeepsBut (MaySave (g.I.Source.left c.args.input.now)) t (g.S.Store.told c.serve.new.store)) c.load.ensures.kept c.serve.ensures.kept
