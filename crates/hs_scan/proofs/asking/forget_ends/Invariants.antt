use Rattle.std.proofs.Common.{◌≡◌, ◌<◌, ℕ, get_or}
use Rattle.hs_nodes.specs.Left.{nowhere}
use Rattle.hs_scan.proofs.asking.forget_ends.Given as goal

abbrev pub invariant-loop-end : goal.invariant-loop-end
invariant-loop-end l = (k : ℕ) → k < l.end-index → get_or l.ends k nowhere ≡ nowhere
