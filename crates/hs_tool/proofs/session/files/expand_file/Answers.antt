use Rattle.std.proofs.Common.{◌≡◌, List, ℕ, sym, subst}
use Rattle.hs_outside.specs.declared.fault.FileFault.{FileFault}
use Rattle.hs_outside.specs.Store.{Told, Prevents}
use Rattle.hs_script.specs.Bases.{most_state}
use Rattle.hs_tool.specs.Expanding.{Expands}
use Rattle.hs_tool.proofs.FileLemmas.{kept_told, performs-hindered, performs-expand, performs-absent, performs-long, performs-expand_memory}
use Rattle.hs_tool.proofs.OpenLemmas.{puts-same}
use Rattle.hs_tool.proofs.session.files.expand_file.Goals as goal

-- the fault that came is this one
prevented : (fault other : FileFault) (told : Told) (before now : ℕ) → fault ≡ other → Prevents fault told most_state before now → Prevents other told most_state before now
prevented fault other told before now is stops = subst (λ f. Prevents f told most_state before now) is stops

pub returns-in-Some-clause-performs : goal.returns-in-Some-clause-performs
returns-in-Some-clause-performs g c = performs-hindered c.args.name.now c.args.file.now c.in-Some.word c.in-Some.ensures

pub returns-in-Ok-clause-performs : goal.returns-in-Ok-clause-performs
returns-in-Ok-clause-performs g c =
    kept_told c.read_file.ensures.kept
    (performs-expand c.args.name.now c.args.file.now c.in-Ok.bytes.items c.expand.result c.in_default.ensures.unknown c.in_default.ensures.room c.in-Ok.ensures.whole c.in-Ok.ensures.within
    (subst (λ (b : List ℕ). Expands c.args.db.now c.args.streams.now c.expand.new.self c.args.name.now b c.expand.result) c.as_slice.ensures.value c.expand.ensures.expands))

pub returns-in-Err-Absent-clause-performs : goal.returns-in-Err-Absent-clause-performs
returns-in-Err-Absent-clause-performs g c =
    let stops = prevented _ _ _ _ _ c.in-Err-Absent.field-0-is c.in-Err-Absent.ensures.fault in
    kept_told c.read_file.ensures.kept (performs-absent c.args.name.now c.args.file.now c.in_default.ensures.unknown c.in_default.ensures.room stops.0)

pub returns-in-Err-Limit-clause-performs : goal.returns-in-Err-Limit-clause-performs
returns-in-Err-Limit-clause-performs g c =
    let stops = prevented _ _ _ _ _ c.in-Err-Limit.field-0-is c.in-Err-Limit.ensures.fault in
    kept_told c.read_file.ensures.kept (performs-long c.args.name.now c.args.file.now c.in_default.ensures.unknown c.in_default.ensures.room stops.0)

pub returns-in-Err-Memory-clause-performs : goal.returns-in-Err-Memory-clause-performs
returns-in-Err-Memory-clause-performs g c =
    kept_told c.read_file.ensures.kept (performs-expand_memory c.args.name.now c.args.file.now c.in_default.ensures.unknown (puts-same c.args.streams.now c.args.name.now _ c.in_default.ensures.unknown))
