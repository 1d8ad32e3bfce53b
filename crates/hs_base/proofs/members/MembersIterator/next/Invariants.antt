use Rattle.std.proofs.Common.{◌≡◌, ◌-◌}
use Rattle.hs_base.specs.ByteSets.{members_from}
use Rattle.hs_base.proofs.members.MembersIterator.next.Given as goal

abbrev pub invariant-loop-self : goal.invariant-loop-self
invariant-loop-self l =
    (members_from l.self.set l.self.next ≡ members_from l.fn.self.set l.fn.self.next)

abbrev pub decreases-loop-self : goal.decreases-loop-self
decreases-loop-self l = 256 - l.self.next
