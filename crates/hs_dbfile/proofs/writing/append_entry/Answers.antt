use Rattle.std.proofs.Common.{subst}
use Rattle.hs_base.specs.Lists.{Each}
use Rattle.hs_base.specs.Entries.{listed}
use Rattle.std.proofs.Common.{◌<◌}
use Rattle.hs_dbfile.proofs.WritingLemmas.{entry_written}
use Rattle.hs_dbfile.proofs.writing.append_entry.Goals as goal

pub returns-clause-written : goal.returns-clause-written
returns-clause-written c =
    entry_written
    (listed c.args.entry.now)
    c.args.bytes.now.items
    c.extend_from_slice.new.self.items
    c.append_text.new.bytes.items
    c.fields_of.result
    c.deref.result.now
    c.in_ok-extend_from_slice.ensures.items
    c.fields_of.ensures.value
    c.in_ok-append_text.ensures.written
    c.deref.ensures.value

pub returns-clause-widths : goal.returns-clause-widths
returns-clause-widths c = record {
  identifier = c.fields_of.ensures.id;
  least = c.fields_of.ensures.least;
  greatest = c.fields_of.ensures.greatest;
  bytes = subst (λ text. Each (λ b. b < 256) text) c.deref.ensures.value c.append_text.ensures.widths;
}
