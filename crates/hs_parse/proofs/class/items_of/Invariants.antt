use Rattle.std.proofs.Common.{◌≤◌, ◌-◌, length}
use Rattle.hs_parse.specs.Reading.{HasItems}
use Rattle.hs_parse.proofs.class.items_of.Given as goal

-- the set has the items up to the place
abbrev pub invariant-loop-test : goal.invariant-loop-test
invariant-loop-test l = HasItems l.text l.fn.mode l.fn.start l.set l.here × (l.here ≤ length l.text)

abbrev pub decreases-loop-test : goal.decreases-loop-test
decreases-loop-test l = length l.text - l.here
