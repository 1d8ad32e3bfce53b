use Rattle.std.proofs.Common.{◌≡◌, ◌-◌, vec_len}
use Rattle.hs_confirm.specs.Left.{ends_left}
use Rattle.hs_confirm.proofs.ends.EndsIterator.next.Given as goal

abbrev pub invariant-loop-self : goal.invariant-loop-self
invariant-loop-self l = ends_left l.self ≡ ends_left l.fn.self

abbrev pub decreases-loop-self : goal.decreases-loop-self
decreases-loop-self l = vec_len l.self.confirm.now.entries - l.self.next
