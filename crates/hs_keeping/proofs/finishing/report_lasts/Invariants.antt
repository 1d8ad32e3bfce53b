use Rattle.std.proofs.Common.{length, take, ◌+◌, ◌*◌}
use Rattle.hs_base.specs.Bits.{has_bit}
use Rattle.hs_base.specs.Regions.{last_at}
use Rattle.hs_base.specs.Settling.{pairs_told}
use Rattle.hs_base.proofs.PairListLemmas.{values_by}
use Rattle.hs_reports.specs.Events.{Through}
use Rattle.hs_reports.specs.Identifiers.{numbers_of}
use Rattle.hs_keeping.proofs.finishing.report_lasts.Given as goal

abbrev pub invariant-loop-p : goal.invariant-loop-p
invariant-loop-p g l =
    Through g.V.Events.tells l.fn.events (pairs_told (take l.p (numbers_of l.identifiers)) (values_by (λ p. has_bit l.region (8 * last_at l.layout.singles l.layout.identifiers + p)) (length (numbers_of l.identifiers))) l.to) l.events
