use Rattle.std.proofs.Common.{ℕ, List, map, subst}
use Rattle.hs_base.specs.Entries.{listed}
use Rattle.hs_base.specs.declared.ext.Entry.{Entry}
use Rattle.hs_lists.specs.ListKinds.{kind_of}
use Rattle.hs_lists.specs.Accepting.{HoldsList, IsFormCause, IsEntryCause}
use Rattle.hs_lists.specs.Causes.{cause_of}
use Rattle.hs_lists.proofs.EndingLemmas.{form-stops, entry-stops}
use Rattle.hs_lists.proofs.loading.load.Goals as goal

pub returns-in-Err-read_entries-clause-fault : goal.returns-in-Err-read_entries-clause-fault
returns-in-Err-read_entries-clause-fault g c =
    form-stops (kind_of c.args.kind) c.args.name.now _ _ _ c.in-Ok.bytes.items _ c.in-Ok.ensures.whole c.in-Ok.ensures.within c.in-Ok.ensures.counted
    (subst (λ (bytes : List ℕ). IsFormCause (kind_of c.args.kind) bytes (cause_of c.in-Err-read_entries.fault)) c.as_slice.ensures.value c.in-Err-read_entries.ensures)

pub returns-in-Err-compile_entries-clause-fault : goal.returns-in-Err-compile_entries-clause-fault
returns-in-Err-compile_entries-clause-fault g c =
    let list = subst (λ (bytes : List ℕ). HoldsList (kind_of c.args.kind) bytes (map listed c.in-Ok-read_entries.entries.items)) c.as_slice.ensures.value c.in-Ok-read_entries.ensures in
    let cause = subst (λ (entries : List Entry). IsEntryCause (map listed entries) (cause_of c.in-Err-compile_entries.fault)) c.as_slice-2.ensures.value c.in-Err-compile_entries.ensures.fault in
    entry-stops (kind_of c.args.kind) c.args.name.now _ _ _ c.in-Ok.bytes.items (map listed c.in-Ok-read_entries.entries.items) _ c.in-Ok.ensures.whole c.in-Ok.ensures.within c.in-Ok.ensures.counted list cause
