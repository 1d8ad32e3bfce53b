use Rattle.hs_base.specs.Entries.{listed}
use Rattle.hs_compile.proofs.EntryLemmas.{unread-refusal}
use Rattle.hs_compile.proofs.entry.unread_refusal.Goals as goal

pub returns : goal.returns
returns c before is =
    unread-refusal before (listed c.args.entry.now) c.args.fault is c.flags_fault.result c.lesser.result c.flags_fault.ensures c.lesser.ensures
