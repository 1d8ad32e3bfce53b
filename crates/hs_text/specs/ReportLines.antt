-- The line of a report, of a stream with a name or of the one stream of a match.
use Rattle.std.specs.Prelude.{ℕ, List, ◌++◌, codes, Option, None, Some}
use Rattle.hs_base.specs.MatchText.{report_line as unnamed_line}
use Rattle.hs_base.specs.declared.entry.Report.{Report}
use Rattle.hs_base.specs.ReportView.{pair_of}

-- `N ID TO`, and `ID TO` where the stream has no name
abbrev pub report_line : Option (List ℕ) → Report → List ℕ
report_line None report = unnamed_line (pair_of report)
report_line (Some name) report = name ++ codes " " ++ unnamed_line (pair_of report)
