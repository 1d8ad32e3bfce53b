use Rattle.std.proofs.Common.{◌++◌, refl, List, ℕ}
use Rattle.hs_base.specs.Entries.{listed}
use Rattle.hs_dbfile.specs.Files.{list_bytes}
use Rattle.hs_dbfile.proofs.WritingLemmas.{encodable_text, step_written, entry_written}
use Rattle.hs_dbfile.proofs.digesting.digest.Goals as goal
use Rattle.std.proofs.Common.{map}

pub fields_of-requires : goal.fields_of-requires
fields_of-requires c = encodable_text c.args.entries.now c.loop-entry.entry-index c.entry-item.result c.requires.short c.loop-entry-test.true c.entry-item.is

pub loop-entry-preserved : goal.loop-entry-preserved
loop-entry-preserved c =
    let held = c.loop-entry.invariant in
    let between : List ℕ = held.0 ++ c.fields_of.result in
    let after : List ℕ = between ++ c.as_slice.result.now in
    let first = c.update-in-loop-entry.ensures held.0 held.1 in
    let second = c.update-in-loop-entry-2.ensures between first in
    let written = entry_written (listed c.entry-item.result) held.0 between after c.fields_of.result c.as_slice.result.now refl c.fields_of.ensures.value refl c.as_slice.ensures.value in
    (after, second, step_written c.args.entries.now c.loop-entry.entry-index c.entry-item.result held.0 after (list_bytes (map listed c.args.entries.now)) c.loop-entry-test.true c.entry-item.is written held.2)
