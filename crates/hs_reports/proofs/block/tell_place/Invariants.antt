use Rattle.std.proofs.Common.{length, take}
use Rattle.hs_base.specs.Settling.{pairs_told}
use Rattle.hs_base.proofs.PairListLemmas.{values_by}
use Rattle.hs_reports.specs.Events.{Through}
use Rattle.hs_reports.specs.Identifiers.{id_numbers}
use Rattle.hs_reports.specs.WordBits.{row_bit}
use Rattle.hs_reports.proofs.block.tell_place.Given as goal

abbrev pub invariant-loop-k : goal.invariant-loop-k
invariant-loop-k g l =
    Through g.V.Events.tells l.fn.events (pairs_told (take l.k (id_numbers l.ids)) (values_by (λ k. row_bit l.words k l.place) (length (id_numbers l.ids))) l.to) l.events
