use Rattle.std.proofs.Common.{◌-◌, length}
use Rattle.hs_parse.proofs.ReadingLemmas.{IsSkipped}
use Rattle.hs_parse.proofs.token.next_token.Given as goal

-- the bytes up to the spot are skipped
abbrev pub invariant-loop-token : goal.invariant-loop-token
invariant-loop-token l = IsSkipped l.text l.fn.from l.start

abbrev pub decreases-loop-token : goal.decreases-loop-token
decreases-loop-token l = length l.text - l.start.place
