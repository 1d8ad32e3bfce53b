use Rattle.std.proofs.Common.{map, take}
use Rattle.hs_forest.specs.Groups.{AreLists}
use Rattle.hs_forest.specs.Views.{numbers}
use Rattle.hs_forest.proofs.groups.lists_of.Given as goal

abbrev pub invariant-loop-number : goal.invariant-loop-number
invariant-loop-number l = AreLists (take l.number l.owners) l.count (map numbers l.lists.items)
