use Rattle.std.proofs.Common.{◌≡◌, ℕ, List, length, refl, ap, subst, arith}
use Rattle.std.proofs.lemmas.List.{length-map}
use Rattle.hs_base.specs.Entries.{listed}
use Rattle.hs_outside.specs.Sink.{Took, TookPrefix}
use Rattle.hs_outside.proofs.Sending.{Took-nothing}
use Rattle.hs_text.specs.AnswerLines.{accepted_line}
use Rattle.hs_lists.specs.Loading.{entries_of}
use Rattle.hs_lists.specs.Endings
use Rattle.hs_lists.proofs.EndingLemmas.{has_list}
use Rattle.hs_lists.proofs.check_command.check_list.Goals as goal

pub returns-in-Err-clause-ends : goal.returns-in-Err-clause-ends
returns-in-Err-clause-ends g c = Endings.stopped _ (record { stops = c.in-Err.ensures.fault; quiet = Took-nothing (g.O.Sink.written c.args.out.now); still = refl })

pub returns-in-Ok-write_accepted-clause-ends : goal.returns-in-Ok-write_accepted-clause-ends
returns-in-Ok-write_accepted-clause-ends g c =
    let loaded = c.in-Ok.ensures.loaded in
    let count : c.len.result ≡ length (entries_of c.in-Ok.loaded) = omega (arith, c.len.ensures, c.in-Ok.loaded.entries.ok.0, length-map c.in-Ok.loaded.entries.items listed) in
    let line = ap accepted_line count in
    Endings.done (entries_of c.in-Ok.loaded) loaded.patterns (accepted_line (length (entries_of c.in-Ok.loaded))) (has_list _ _ c.in-Ok.loaded loaded) refl
    (subst (λ (text : List ℕ). Took (g.O.Sink.written c.args.out.now) (g.O.Sink.written c.write_accepted.new.out) text) line c.in-Ok-write_accepted.ensures.taken)
    (record { store = c.in-Ok.ensures.counted; sink = c.in-Ok-write_accepted.ensures.counted })

pub returns-clause-ends : goal.returns-clause-ends
returns-clause-ends g c =
    let loaded = c.in-Ok.ensures.loaded in
    let count : c.len.result ≡ length (entries_of c.in-Ok.loaded) = omega (arith, c.len.ensures, c.in-Ok.loaded.entries.ok.0, length-map c.in-Ok.loaded.entries.items listed) in
    let line = ap accepted_line count in
    Endings.sink_failed (entries_of c.in-Ok.loaded) loaded.patterns (accepted_line (length (entries_of c.in-Ok.loaded))) (has_list _ _ c.in-Ok.loaded loaded) refl
    (subst (λ (text : List ℕ). TookPrefix (g.O.Sink.written c.args.out.now) (g.O.Sink.written c.write_accepted.new.out) text) line c.in-Err-write_accepted.ensures.cut)
    c.in-Err-write_accepted.ensures.failed
