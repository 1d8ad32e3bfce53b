use Rattle.std.proofs.Common.{◌+◌, ◌++◌, length}
use Rattle.hs_confirm.proofs.PlainLemmas.{IsTakenBack}
use Rattle.hs_confirm.proofs.plain.ends_at_place.Given as goal

abbrev pub invariant-loop-back : goal.invariant-loop-back
invariant-loop-back l = IsTakenBack l.literal (l.history ++ l.bytes) (length l.history + l.at) l.back
