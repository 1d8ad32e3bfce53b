use Rattle.std.proofs.Common.{◌∙◌, ℕ, List, Err, refl, sym, ap, subst}
use Rattle.hs_text.specs.Commands.{IsCommand, ordered}
use Rattle.hs_text.specs.Commands as order
use Rattle.hs_reader.proofs.ShortLemmas.{command-kept, no_command-kept}
use Rattle.hs_tool.specs.OpenStreams.{kept}
use Rattle.hs_tool.proofs.RunLemmas.{runs-none}
use Rattle.hs_tool.proofs.SaveLemmas.{keeps-same, keeps-command, stored-same, unfailed-fault}
use Rattle.hs_tool.proofs.session.Session.run_line.Goals as goal

pub returns-in_default-clause-runs : goal.returns-in_default-clause-runs
returns-in_default-clause-runs g c = λ whole is.
    runs-none _ c.args.self.now.db.now whole c.args.number (kept c.args.streams.now (g.S.Store.told c.args.self.now.store.now)) (g.I.Source.left c.args.self.now.input.now) c.args.self.now.reader
    (g.O.Sink.written c.args.self.now.out.now) (g.O.Sink.written c.write_fault.new.out) c.args.self.now.pending c.write_fault.new.pending c.write_fault.result
    (no_command-kept whole (c.as_slice.ensures ∙ is) c.in_default.ensures) c.write_fault.ensures.sends

pub returns-in-Open-clause-runs : goal.returns-in-Open-clause-runs
returns-in-Open-clause-runs g c = λ whole is.
    let command = command-kept whole (c.as_slice.ensures ∙ is) (subst (λ k. IsCommand c.as_slice.result.now (ordered k)) c.in-Open.is c.in-Some.ensures) in
    c.open.ensures.runs whole c.args.number (subst (λ (n : List ℕ). IsCommand whole (order.Open n)) (sym c.new.ensures) command)

pub returns-in-Write-clause-runs : goal.returns-in-Write-clause-runs
returns-in-Write-clause-runs g c = λ whole is.
    let command = command-kept whole (c.as_slice.ensures ∙ is) (subst (λ k. IsCommand c.as_slice.result.now (ordered k)) c.in-Write.is c.in-Some.ensures) in
    c.write.ensures.runs whole (subst (λ (n : List ℕ). IsCommand whole (order.Write n c.in-Write.count)) (sym c.new-in-Write.ensures) command)

pub returns-in-Reset-clause-runs : goal.returns-in-Reset-clause-runs
returns-in-Reset-clause-runs g c = λ whole is.
    let command = command-kept whole (c.as_slice.ensures ∙ is) (subst (λ k. IsCommand c.as_slice.result.now (ordered k)) c.in-Reset.is c.in-Some.ensures) in
    c.reset.ensures.runs whole c.args.number (subst (λ (n : List ℕ). IsCommand whole (order.Reset n)) (sym c.new-in-Reset.ensures) command)

pub returns-in-Close-clause-runs : goal.returns-in-Close-clause-runs
returns-in-Close-clause-runs g c = λ whole is.
    let command = command-kept whole (c.as_slice.ensures ∙ is) (subst (λ k. IsCommand c.as_slice.result.now (ordered k)) c.in-Close.is c.in-Some.ensures) in
    c.close.ensures.runs whole c.args.number (subst (λ (n : List ℕ). IsCommand whole (order.Close n)) (sym c.new-in-Close.ensures) command)

pub save-requires-clause-named : goal.save-requires-clause-named
save-requires-clause-named g c = (subst (λ k. IsCommand c.as_slice.result.now (ordered k)) c.in-Save.is c.in-Some.ensures).file

pub expand-requires-clause-named : goal.expand-requires-clause-named
expand-requires-clause-named g c = (subst (λ k. IsCommand c.as_slice.result.now (ordered k)) c.in-Expand.is c.in-Some.ensures).file

pub returns-in-Save-clause-runs : goal.returns-in-Save-clause-runs
returns-in-Save-clause-runs g c = λ whole is.
    let command = command-kept whole (c.as_slice.ensures ∙ is) (subst (λ k. IsCommand c.as_slice.result.now (ordered k)) c.in-Save.is c.in-Some.ensures) in
    c.save.ensures.runs whole c.args.number (subst (λ (n : List ℕ). IsCommand whole (order.Save n c.in-Save.file.now)) (sym c.new-in-Save.ensures) command)

pub returns-in-Expand-clause-runs : goal.returns-in-Expand-clause-runs
returns-in-Expand-clause-runs g c = λ whole is.
    let command = command-kept whole (c.as_slice.ensures ∙ is) (subst (λ k. IsCommand c.as_slice.result.now (ordered k)) c.in-Expand.is c.in-Some.ensures) in
    c.expand.ensures.runs whole c.args.number (subst (λ (n : List ℕ). IsCommand whole (order.Expand n c.in-Expand.file.now)) (sym c.new-in-Expand.ensures) command)

pub returns-in_default-clause-files : goal.returns-in_default-clause-files
returns-in_default-clause-files g c = λ whole is. keeps-same refl

pub returns-in_default-clause-stored : goal.returns-in_default-clause-stored
returns-in_default-clause-stored g c =
    let count = g.S.Store.faults c.args.self.now.store.now in
    stored-same (Err c.write_fault.result) count count (unfailed-fault _ _ _ _ _ c.write_fault.result c.write_fault.ensures.sends) refl

pub returns-in-Open-clause-files : goal.returns-in-Open-clause-files
returns-in-Open-clause-files g c = λ whole is. keeps-same (ap (λ s. g.S.Store.told s.now) c.open.ensures.same_files)

pub returns-in-Open-clause-stored : goal.returns-in-Open-clause-stored
returns-in-Open-clause-stored g c =
    stored-same c.open.result (g.S.Store.faults c.args.self.now.store.now) (g.S.Store.faults c.open.new.self.store.now) c.open.ensures.unfailed (ap (λ s. g.S.Store.faults s.now) c.open.ensures.same_files)

pub returns-in-Write-clause-files : goal.returns-in-Write-clause-files
returns-in-Write-clause-files g c = λ whole is. keeps-same (ap (λ s. g.S.Store.told s.now) c.write.ensures.same_files)

pub returns-in-Write-clause-stored : goal.returns-in-Write-clause-stored
returns-in-Write-clause-stored g c =
    stored-same c.write.result (g.S.Store.faults c.args.self.now.store.now) (g.S.Store.faults c.write.new.self.store.now) c.write.ensures.unfailed (ap (λ s. g.S.Store.faults s.now) c.write.ensures.same_files)

pub returns-in-Reset-clause-files : goal.returns-in-Reset-clause-files
returns-in-Reset-clause-files g c = λ whole is. keeps-same (ap (λ s. g.S.Store.told s.now) c.reset.ensures.same_files)

pub returns-in-Reset-clause-stored : goal.returns-in-Reset-clause-stored
returns-in-Reset-clause-stored g c =
    stored-same c.reset.result (g.S.Store.faults c.args.self.now.store.now) (g.S.Store.faults c.reset.new.self.store.now) c.reset.ensures.unfailed (ap (λ s. g.S.Store.faults s.now) c.reset.ensures.same_files)

pub returns-in-Close-clause-files : goal.returns-in-Close-clause-files
returns-in-Close-clause-files g c = λ whole is. keeps-same (ap (λ s. g.S.Store.told s.now) c.close.ensures.same_files)

pub returns-in-Close-clause-stored : goal.returns-in-Close-clause-stored
returns-in-Close-clause-stored g c =
    stored-same c.close.result (g.S.Store.faults c.args.self.now.store.now) (g.S.Store.faults c.close.new.self.store.now) c.close.ensures.unfailed (ap (λ s. g.S.Store.faults s.now) c.close.ensures.same_files)

pub returns-in-Save-clause-files : goal.returns-in-Save-clause-files
returns-in-Save-clause-files g c = λ whole is.
    let command = command-kept whole (c.as_slice.ensures ∙ is) (subst (λ k. IsCommand c.as_slice.result.now (ordered k)) c.in-Save.is c.in-Some.ensures) in
    keeps-command command c.save.ensures.files

pub returns-in-Expand-clause-files : goal.returns-in-Expand-clause-files
returns-in-Expand-clause-files g c = λ whole is. keeps-same c.expand.ensures.files
