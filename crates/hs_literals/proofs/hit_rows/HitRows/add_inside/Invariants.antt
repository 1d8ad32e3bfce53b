use Rattle.std.proofs.Common.{◌≡◌, ◌-◌, length}
use Rattle.hs_literals.specs.Held.{held}
use Rattle.hs_literals.specs.HitTables.{AddsHits, IsHitUpTo}
use Rattle.hs_literals.proofs.hit_rows.HitRows.add_inside.Given as goal

abbrev pub invariant-loop-mask : goal.invariant-loop-mask
invariant-loop-mask l = record {
  literals : l.places.literals.now ≡ l.literals;
  history : l.places.history.now ≡ l.before;
  bytes : l.places.bytes.now ≡ l.bytes;
  adds : AddsHits l.initial.self l.self (IsHitUpTo (held l.literals) l.before l.bytes l.places.at);
}

abbrev pub decreases-loop-mask : goal.decreases-loop-mask
decreases-loop-mask l = length l.places.bytes.now - l.places.at
