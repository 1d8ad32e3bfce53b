-- How reports are counted.
use Rattle.std.specs.Prelude.{◌+◌, List, length}
use Rattle.std.specs.List.{sum_by}
use Rattle.hs_base.specs.Told.{Pair}
use Rattle.hs_base.specs.declared.entry.Report.{Report}
use Rattle.hs_stream.specs.declared.tally.Tally.{Tally}

-- how many reports there are, and the sum of their ends
abbrev pub tally_of : List Pair → Tally
tally_of pairs = record { count = length pairs; sum = sum_by (λ pair. pair.to) pairs }

-- a tally, with these reports more
abbrev pub with_reports : Tally → List Report → Tally
with_reports tally reports = record {
  count = tally.count + length reports;
  sum = tally.sum + sum_by (λ report. report.to) reports;
}

-- a tally, with these pairs more
abbrev pub with_pairs : Tally → List Pair → Tally
with_pairs tally pairs = record {
  count = tally.count + length pairs;
  sum = tally.sum + sum_by (λ pair. pair.to) pairs;
}
