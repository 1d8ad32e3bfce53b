use Rattle.std.proofs.Common.{map, take}
use Rattle.hs_forest.specs.Groups.{AreJoined}
use Rattle.hs_forest.specs.Views.{numbers}
use Rattle.hs_forest.proofs.groups.joined.Given as goal

abbrev pub invariant-loop-more : goal.invariant-loop-more
invariant-loop-more l = AreJoined (map numbers (take l.more-index l.lists)) l.starts.items l.list.items
