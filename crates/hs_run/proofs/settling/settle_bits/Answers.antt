use Rattle.std.proofs.Common.{refl, ◌∙◌}
use Rattle.hs_run.specs.Reporting.{pairs_about}
use Rattle.hs_reports.proofs.EventLemmas.{through-join}
use Rattle.hs_run.proofs.settling.settle_bits.Goals as goal

pub returns-clause-settled : goal.returns-clause-settled
returns-clause-settled g c = record {
  pairs = pairs_about c.args.identifiers.now c.read_kept.new.kept c.args.ends.now c.args.at;
  through = through-join g.V.Events.tells c.report.ensures c.report-2.ensures;
  holds = record {
    before = c.read_kept.new.kept;
    later = c.settle.new.kept;
    before_count = c.read_kept.ensures.len ∙ c.requires.kept;
    later_count = c.settle.ensures.len ∙ (c.read_kept.ensures.len ∙ c.requires.kept);
    was = c.read_kept.ensures.read;
    settles = c.settle.ensures.settled;
    written = c.write_kept.ensures.written;
    is = c.write_kept.ensures.read;
    told = refl;
  };
}
