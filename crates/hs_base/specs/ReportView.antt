-- A report as contracts see it.
use Rattle.hs_base.specs.declared.entry.Report.{Report}
use Rattle.hs_base.specs.Told.{Pair}

-- the identifier and the end of a report
abbrev pub pair_of : Report → Pair
pair_of report = record { id = report.id.0; to = report.to }
