use Rattle.std.proofs.Common.{◌≡◌, ◌+◌, length, drop}
use Rattle.hs_syntax.specs.Numbers.{number_on}
use Rattle.hs_syntax.proofs.NumberLemmas.{AreLeft}
use Rattle.hs_syntax.proofs.number.number_at.Given as goal

-- the digits that are left spell what all digits do
abbrev pub invariant-loop-rest : goal.invariant-loop-rest
invariant-loop-rest l =
    AreLeft l.radix l.most l.value l.count l.rest (number_on l.radix l.most 0 0 (drop l.at l.fn.bytes))
    × (l.at + l.count + length l.rest ≡ length l.fn.bytes)

abbrev pub decreases-loop-rest : goal.decreases-loop-rest
decreases-loop-rest l = length l.rest
