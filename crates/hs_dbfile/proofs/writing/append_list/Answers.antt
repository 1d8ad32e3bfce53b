use Rattle.hs_dbfile.proofs.WritingLemmas.{short_text, step_written, each_left}
use Rattle.hs_dbfile.proofs.writing.append_list.Goals as goal

pub append_entry-requires : goal.append_entry-requires
append_entry-requires c = short_text c.args.entries.now c.loop-entry.entry-index c.entry-item.result c.requires.each c.loop-entry-test.true c.entry-item.is

pub loop-entry-preserved : goal.loop-entry-preserved
loop-entry-preserved c = record {
  whole = step_written c.args.entries.now c.loop-entry.entry-index c.entry-item.result c.loop-entry.bytes.items c.append_entry.new.bytes.items _ c.loop-entry-test.true c.entry-item.is c.in_ok-append_entry.ensures.written c.loop-entry.invariant.whole;
  widths = λ h. c.loop-entry.invariant.widths (each_left c.args.entries.now c.loop-entry.entry-index c.entry-item.result c.loop-entry-test.true c.entry-item.is c.in_ok-append_entry.ensures.widths h);
}
