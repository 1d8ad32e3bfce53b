use Rattle.std.proofs.Common.{length, take}
use Rattle.hs_keeping.specs.Finishing.{due_at_end}
use Rattle.hs_base.specs.Settling.{pairs_told}
use Rattle.hs_base.proofs.PairListLemmas.{values_by}
use Rattle.hs_reports.specs.Events.{Through}
use Rattle.hs_reports.specs.Identifiers.{numbers_of}
use Rattle.hs_keeping.proofs.finishing.report_ends.Given as goal

abbrev pub invariant-loop-p : goal.invariant-loop-p
invariant-loop-p g l =
    Through g.V.Events.tells l.fn.events (pairs_told (take l.p (numbers_of l.identifiers)) (values_by (due_at_end l.layout l.region l.known.told.items l.known.here.items l.finals l.identifiers) (length (numbers_of l.identifiers))) l.to) l.events
