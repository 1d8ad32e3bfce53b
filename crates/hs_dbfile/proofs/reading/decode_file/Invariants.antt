use Rattle.std.proofs.Common.{◌≡◌, ◌++◌, ◌<◌, length, map}
use Rattle.hs_base.specs.Lists.{Each}
use Rattle.hs_base.specs.Entries.{listed}
use Rattle.hs_dbfile.specs.Files.{entries_bytes}
use Rattle.hs_dbfile.specs.Entries.{IsEntry}
use Rattle.hs_dbfile.specs.Reading.{IsRead, start_bytes}
use Rattle.hs_dbfile.proofs.reading.decode_file.Given as goal

abbrev pub invariant-loop-entry : goal.invariant-loop-entry
invariant-loop-entry l = record {
  started : IsRead start_bytes (λ n. n < 4294967296) l.bytes l.count (entries_bytes (map listed l.entries.items) ++ l.rest);
  each : Each IsEntry (map listed l.entries.items);
  counted : length (map listed l.entries.items) ≡ l._entry;
}
