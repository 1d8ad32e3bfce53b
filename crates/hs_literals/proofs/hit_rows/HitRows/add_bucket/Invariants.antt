use Rattle.hs_confirm.specs.Left.{ends_left}
use Rattle.hs_literals.specs.AllEnds.{pairs_of_place}
use Rattle.hs_literals.specs.Held.{held, held_buckets}
use Rattle.hs_literals.specs.HitTables.{IsHitOf}
use Rattle.hs_literals.proofs.HitLoopLemmas.{StillAdds}
use Rattle.hs_literals.proofs.hit_rows.HitRows.add_bucket.Given as goal

abbrev pub invariant-loop-number : goal.invariant-loop-number
invariant-loop-number l = StillAdds (IsHitOf (held l.literals) (held_buckets l.literals) l.bucket l.before l.bytes l.place) (pairs_of_place l.place (ends_left l.number-iterator)) l.initial.self l.self
