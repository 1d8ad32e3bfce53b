use Rattle.hs_kept.specs.Groups.{IsUnpackedTo}
use Rattle.hs_kept.proofs.packing.Packing.unpack_fields.Given as goal

abbrev pub invariant-loop-number : goal.invariant-loop-number
invariant-loop-number l = IsUnpackedTo l.self l.kept l.number l.next_at l.next_place l.region
