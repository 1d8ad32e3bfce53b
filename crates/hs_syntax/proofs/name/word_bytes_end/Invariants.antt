use Rattle.std.proofs.Common.{◌≡◌, ◌≤◌, ◌+◌, length, drop}
use Rattle.hs_syntax.specs.Bytes.{word_bytes_on}
use Rattle.hs_syntax.proofs.name.word_bytes_end.Given as goal

-- the word bytes end where those of the rest do
abbrev pub invariant-loop-rest : goal.invariant-loop-rest
invariant-loop-rest l =
    (word_bytes_on l.fn.at (drop l.fn.at l.fn.bytes) ≡ word_bytes_on l.end l.rest)
    × (l.fn.at ≤ l.end) × (l.end + length l.rest ≡ length l.fn.bytes)

abbrev pub decreases-loop-rest : goal.decreases-loop-rest
decreases-loop-rest l = length l.rest
