use Rattle.std.proofs.Common.{◌≡◌, ℕ, List, length, map, refl, sym, ap₂, subst, arith}
use Rattle.std.proofs.lemmas.List.{length-map}
use Rattle.hs_base.specs.Entries.{listed}
use Rattle.hs_outside.specs.Sink.{Took, TookPrefix}
use Rattle.hs_outside.specs.Store.{PutsOrHides}
use Rattle.hs_outside.proofs.Sending.{Took-nothing}
use Rattle.hs_text.specs.AnswerLines.{compiled_line}
use Rattle.hs_lists.specs.ListKinds.{pattern_file}
use Rattle.hs_lists.specs.Endings
use Rattle.hs_lists.proofs.EndingLemmas.{no_memory_early}
use Rattle.hs_lists.proofs.compile_command.put_list.Goals as goal

pub returns-in-Err-clause-ends : goal.returns-in-Err-clause-ends
returns-in-Err-clause-ends g c patterns P has =
    Endings.stopped _ (no_memory_early pattern_file patterns _ _ (Took-nothing (g.O.Sink.written c.args.out.now)) (record { store = refl; sink = refl })) refl

pub returns-in-Err-put-clause-ends : goal.returns-in-Err-put-clause-ends
returns-in-Err-put-clause-ends g c patterns P has =
    Endings.put_failed (map listed c.args.entries.now) P has c.in-Err-put.ensures.spoiled (Took-nothing (g.O.Sink.written c.args.out.now)) c.in-Err-put.ensures.failed

pub returns-in-Ok-write_compiled-clause-ends : goal.returns-in-Ok-write_compiled-clause-ends
returns-in-Ok-write_compiled-clause-ends g c patterns P has =
    let put = subst (λ (bytes : List ℕ). PutsOrHides (g.S.Store.told c.args.store.now) (g.S.Store.told c.put.new.self) c.args.database.now bytes) c.as_slice.ensures.value c.in-Ok-put.ensures.done in
    let size : c.len.result ≡ length c.in-Ok.bytes.items = omega (arith, c.len.ensures, c.in-Ok.bytes.ok.0) in
    let line = ap₂ compiled_line (sym (length-map c.args.entries.now listed)) size in
    Endings.done (map listed c.args.entries.now) P c.in-Ok.bytes.items has c.in-Ok.ensures put
    (subst (λ (text : List ℕ). Took (g.O.Sink.written c.args.out.now) (g.O.Sink.written c.write_compiled.new.out) text) line c.in-Ok-write_compiled.ensures.taken)
    (record { store = c.in-Ok-put.ensures.counted; sink = c.in-Ok-write_compiled.ensures.counted })

pub returns-clause-ends : goal.returns-clause-ends
returns-clause-ends g c patterns P has =
    let put = subst (λ (bytes : List ℕ). PutsOrHides (g.S.Store.told c.args.store.now) (g.S.Store.told c.put.new.self) c.args.database.now bytes) c.as_slice.ensures.value c.in-Ok-put.ensures.done in
    let size : c.len.result ≡ length c.in-Ok.bytes.items = omega (arith, c.len.ensures, c.in-Ok.bytes.ok.0) in
    let line = ap₂ compiled_line (sym (length-map c.args.entries.now listed)) size in
    Endings.sink_failed (map listed c.args.entries.now) P c.in-Ok.bytes.items has c.in-Ok.ensures put
    (subst (λ (text : List ℕ). TookPrefix (g.O.Sink.written c.args.out.now) (g.O.Sink.written c.write_compiled.new.out) text) line c.in-Err-write_compiled.ensures.cut)
    c.in-Err-write_compiled.ensures.failed
