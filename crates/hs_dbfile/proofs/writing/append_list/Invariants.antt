use Rattle.std.proofs.Common.{◌≡◌, ◌++◌, map, drop}
use Rattle.hs_base.specs.Lists.{Each}
use Rattle.hs_base.specs.Entries.{listed}
use Rattle.hs_dbfile.specs.Files.{IsWithinWidths, entries_bytes, list_bytes}
use Rattle.hs_dbfile.proofs.writing.append_list.Given as goal

abbrev pub invariant-loop-entry : goal.invariant-loop-entry
invariant-loop-entry l = record {
  whole : l.bytes.items ++ entries_bytes (map listed (drop l.entry-index l.entries)) ≡ l.fn.bytes.items ++ list_bytes (map listed l.entries);
  widths : Each IsWithinWidths (map listed (drop l.entry-index l.entries)) → Each IsWithinWidths (map listed l.entries);
}
