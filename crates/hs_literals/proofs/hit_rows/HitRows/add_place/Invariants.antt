use Rattle.hs_confirm.specs.Found.{AreBuckets}
use Rattle.hs_literals.specs.Held.{held, held_buckets}
use Rattle.hs_literals.specs.HitTables.{AddsHits, IsHitBut}
use Rattle.hs_literals.proofs.hit_rows.HitRows.add_place.Given as goal

abbrev pub invariant-loop-left : goal.invariant-loop-left
invariant-loop-left l = record {
  few : AreBuckets l.left;
  adds : AddsHits l.initial.self l.self (IsHitBut (held l.literals) (held_buckets l.literals) l.left l.before l.bytes l.place);
}

abbrev pub decreases-loop-left : goal.decreases-loop-left
decreases-loop-left l = l.left
