use Rattle.std.proofs.Common.{◌≡◌, ◌≤◌, ◌+◌, length, drop}
use Rattle.hs_syntax.specs.Settings.{set_options}
use Rattle.hs_syntax.proofs.mode.set_options.Given as goal

-- the options of the letters so far are changed
abbrev pub invariant-loop-rest : goal.invariant-loop-rest
invariant-loop-rest l =
    (set_options l.fn.on l.fn.mode l.fn.at (drop l.fn.at l.fn.bytes) ≡ set_options l.fn.on l.mode l.end l.rest)
    × (l.fn.at ≤ l.end) × (l.end + length l.rest ≡ length l.fn.bytes)

abbrev pub decreases-loop-rest : goal.decreases-loop-rest
decreases-loop-rest l = length l.rest
