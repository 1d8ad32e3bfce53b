use Rattle.std.proofs.Common.{◌≡◌, ℕ, ◌<◌, ◌≤◌, ◌++◌, false, get_or}
use Rattle.hs_base.specs.ByteSets.{has}
use Rattle.hs_nodes.proofs.look_back.passed_over.Given as goal

abbrev pub invariant-loop-place : goal.invariant-loop-place
invariant-loop-place g l =
    (p : ℕ) →
    l.begin ≤ p →
    p < l.place →
    (get_or (l.chunk.past.now ++ l.chunk.bytes.now) p 0 < 256)
    × (has l.wakers (get_or (l.chunk.past.now ++ l.chunk.bytes.now) p 0) ≡ false)
