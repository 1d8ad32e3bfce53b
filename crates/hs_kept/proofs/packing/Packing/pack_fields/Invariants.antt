use Rattle.hs_kept.specs.Groups.{IsPackedTo}
use Rattle.hs_kept.proofs.packing.Packing.pack_fields.Given as goal

abbrev pub invariant-loop-number : goal.invariant-loop-number
invariant-loop-number l = IsPackedTo l.self l.region l.prev l.number l.next_at l.next_place l.kept
