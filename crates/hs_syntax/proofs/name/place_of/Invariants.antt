use Rattle.std.proofs.Common.{◌≡◌, ◌+◌, length, drop}
use Rattle.hs_syntax.specs.Bytes.{place_on}
use Rattle.hs_syntax.proofs.name.place_of.Given as goal

-- the byte stands first where it does in the rest
abbrev pub invariant-loop-rest : goal.invariant-loop-rest
invariant-loop-rest l =
    (place_on l.byte l.fn.at (drop l.fn.at l.fn.bytes) ≡ place_on l.byte l.place l.rest)
    × (l.place + length l.rest ≡ length l.fn.bytes)

abbrev pub decreases-loop-rest : goal.decreases-loop-rest
decreases-loop-rest l = length l.rest
