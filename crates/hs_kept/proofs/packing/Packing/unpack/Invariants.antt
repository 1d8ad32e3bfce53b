use Rattle.std.proofs.Common.{◌-◌, ◌≤◌, length}
use Rattle.hs_kept.specs.Groups.{IsUnpackedTo}
use Rattle.hs_kept.proofs.packing.Packing.unpack.Given as goal

abbrev pub invariant-loop-first : goal.invariant-loop-first
invariant-loop-first l = record {
  within : l.first ≤ length l.self.fields.items;
  so_far : IsUnpackedTo l.self l.kept l.first l.at l.place l.region;
}

abbrev pub decreases-loop-first : goal.decreases-loop-first
decreases-loop-first l = length l.self.fields.items - l.first
