use Rattle.std.proofs.Common.{refl, sym, subst}
use Rattle.hs_outside.proofs.Sending.{Took-nothing}
use Rattle.hs_lists.specs.ListKinds.{kind_of}
use Rattle.hs_lists.specs.Endings.{HasList}
use Rattle.hs_tool.specs.Answers.{stopped}
use Rattle.hs_lists.specs.Loading.{entries_of}
use Rattle.hs_lists.proofs.EndingLemmas.{has_list}
use Rattle.hs_tool.proofs.AnswerLemmas.{ends_since, ends_as, runs_loaded}
use Rattle.hs_tool.proofs.match_command.match_file.Goals as goal

pub returns-in-Err-clause-ends : goal.returns-in-Err-clause-ends
returns-in-Err-clause-ends g c = stopped _ (record { stops = c.in-Err.ensures.fault; quiet = Took-nothing (g.O.Sink.written c.args.out.now); still = refl })

pub returns-in-Ok-scan_whole-clause-ends : goal.returns-in-Ok-scan_whole-clause-ends
returns-in-Ok-scan_whole-clause-ends g c =
    let loaded = c.in-Ok.ensures.loaded in
    let list = subst (λ told. HasList (kind_of c.args.kind) (told c.args.list.now) (entries_of c.in-Ok.loaded) loaded.patterns) (sym c.in-Ok.ensures.kept) (has_list _ _ c.in-Ok.loaded loaded) in
    ends_since (kind_of c.args.kind) c.args.list.now c.args.file.now (g.S.Store.told c.args.store.now) (g.S.Store.told c.load.new.store) _ _ _ _ _ _ c.in-Ok.ensures.kept c.in-Ok.ensures.counted
    (c.in-Ok-scan_whole.ensures.ends (kind_of c.args.kind) c.args.list.now (entries_of c.in-Ok.loaded) loaded.patterns list (runs_loaded loaded))

pub returns-clause-ends : goal.returns-clause-ends
returns-clause-ends g c =
    let loaded = c.in-Ok.ensures.loaded in
    let list = subst (λ told. HasList (kind_of c.args.kind) (told c.args.list.now) (entries_of c.in-Ok.loaded) loaded.patterns) (sym c.in-Ok.ensures.kept) (has_list _ _ c.in-Ok.loaded loaded) in
    ends_as (kind_of c.args.kind) c.args.list.now c.args.file.now _ _ (sym c.fault_of.ensures)
    (ends_since (kind_of c.args.kind) c.args.list.now c.args.file.now (g.S.Store.told c.args.store.now) (g.S.Store.told c.load.new.store) _ _ _ _ _ _ c.in-Ok.ensures.kept c.in-Ok.ensures.counted
    (c.in-Err-scan_whole.ensures.ends (kind_of c.args.kind) c.args.list.now (entries_of c.in-Ok.loaded) loaded.patterns list (runs_loaded loaded)))
