use Rattle.std.proofs.Common.{◌≤◌, ◌-◌, length}
use Rattle.hs_parse.specs.PointReading.{HavePoints}
use Rattle.hs_parse.proofs.points.item_points.Given as goal

-- the ranges have the items up to the place
abbrev pub invariant-loop-test : goal.invariant-loop-test
invariant-loop-test l = HavePoints l.text l.mode l.fn.start l.all.items l.here × (l.here ≤ length l.text)

abbrev pub decreases-loop-test : goal.decreases-loop-test
decreases-loop-test l = length l.text - l.here
