use Rattle.std.proofs.Common.{◌≡◌, take}
use Rattle.hs_confirm.specs.Entries.{rows_of_entries}
use Rattle.hs_confirm.proofs.filing.rows_of.Given as goal

abbrev pub invariant-loop-entry : goal.invariant-loop-entry
invariant-loop-entry l = l.rows.items ≡ rows_of_entries l.count (take l.entry-index l.entries)
