use Rattle.std.proofs.Common.{◌≤◌, ◌-◌, length}
use Rattle.hs_bits.specs.BlockContexts.{AreClasses}
use Rattle.hs_bits.proofs.contexts.Classes.new.Given as goal

abbrev pub invariant-loop-place : goal.invariant-loop-place
invariant-loop-place l = (l.place ≤ length l.bytes) × AreClasses l.classes l.bytes l.place

abbrev pub decreases-loop-place : goal.decreases-loop-place
decreases-loop-place l = length l.bytes - l.place
