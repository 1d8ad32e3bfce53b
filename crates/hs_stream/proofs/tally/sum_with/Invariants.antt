use Rattle.std.proofs.Common.{◌≡◌, ◌+◌, drop}
use Rattle.std.specs.List.{sum_by}
use Rattle.hs_stream.proofs.tally.sum_with.Given as goal

abbrev pub invariant-loop-report : goal.invariant-loop-report
invariant-loop-report l = l.sum + sum_by (λ report. report.to) (drop l.report-index l.reports) ≡ l.start + sum_by (λ report. report.to) l.reports
