use Rattle.std.proofs.Common.{take}
use Rattle.hs_base.specs.Settling.{pairs_told}
use Rattle.hs_rose.specs.Identifiers.{ids_of}
use Rattle.hs_reports.specs.Events.{Through}
use Rattle.hs_run.specs.Reporting.{told_values}
use Rattle.hs_run.proofs.reporting.report.Given as goal

abbrev pub invariant-loop-i : goal.invariant-loop-i
invariant-loop-i g l =
    Through g.V.Events.tells l.fn.events (pairs_told (take l.i (ids_of l.identifiers)) (told_values l.moment l.identifiers l.kept l.ends) l.to) l.events
