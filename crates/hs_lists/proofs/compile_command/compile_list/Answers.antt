use Rattle.std.proofs.Common.{◌⊎◌, List, map, refl, subst, sym}
use Rattle.hs_base.specs.Entries.{listed}
use Rattle.hs_base.specs.declared.ext.Entry.{Entry}
use Rattle.hs_outside.proofs.Sending.{Took-nothing}
use Rattle.hs_outside.specs.Store.{KeepsOthers, TellsNothing}
use Rattle.hs_dbfile.specs.Files.{AreWritable}
use Rattle.hs_lists.specs.ListKinds.{pattern_file}
use Rattle.hs_lists.specs.Endings
use Rattle.hs_lists.specs.Endings.{HasList}
use Rattle.hs_lists.specs.Loading.{entries_of}
use Rattle.hs_lists.proofs.EndingLemmas.{has_list, compile_since}
use Rattle.hs_lists.proofs.WritableLemmas.{writable}
use Rattle.hs_lists.proofs.compile_command.compile_list.Goals as goal

pub put_list-requires : goal.put_list-requires
put_list-requires g c =
    let loaded = c.in-Ok.ensures.loaded in
    subst (λ (entries : List Entry). AreWritable (map listed entries)) (sym c.as_slice.ensures.value)
    (writable loaded.bytes (entries_of c.in-Ok.loaded) loaded.patterns loaded.accepted.list loaded.accepted.accepted)

pub returns-in-Err-clause-ends : goal.returns-in-Err-clause-ends
returns-in-Err-clause-ends g c = Endings.stopped _ (record { stops = c.in-Err.ensures.fault; quiet = Took-nothing (g.O.Sink.written c.args.out.now); still = refl }) c.in-Err.ensures.kept

pub returns-clause-ends : goal.returns-clause-ends
returns-clause-ends g c =
    let loaded = c.in-Ok.ensures.loaded in
    let here = subst (λ told. HasList pattern_file (told c.args.patterns.now) (entries_of c.in-Ok.loaded) loaded.patterns) (sym c.in-Ok.ensures.kept) (has_list _ _ c.in-Ok.loaded loaded) in
    let list = subst (λ (entries : List Entry). HasList pattern_file (g.S.Store.told c.load.new.store c.args.patterns.now) (map listed entries) loaded.patterns) (sym c.as_slice.ensures.value) here in
    compile_since c.args.patterns.now c.args.database.now (g.S.Store.told c.args.store.now) (g.S.Store.told c.load.new.store) _ _ _ _ _ _ c.in-Ok.ensures.kept c.in-Ok.ensures.counted
    (c.put_list.ensures.ends c.args.patterns.now loaded.patterns list)

pub returns-clause-kept : goal.returns-clause-kept
returns-clause-kept g c =
    let now = g.S.Store.told c.put_list.new.store in
    subst (λ told. KeepsOthers told now c.args.database.now ⊎ TellsNothing now) c.in-Ok.ensures.kept c.put_list.ensures.kept
