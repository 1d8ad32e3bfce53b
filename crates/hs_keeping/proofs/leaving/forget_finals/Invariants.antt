use Rattle.std.proofs.Common.{◌-◌, length}
use Rattle.hs_keeping.proofs.ForgetLemmas.{AreForgotten}
use Rattle.hs_keeping.proofs.leaving.forget_finals.Given as goal

abbrev pub invariant-loop-p : goal.invariant-loop-p
invariant-loop-p l = AreForgotten (length l.fn.finals.words) l.from l.finals

abbrev pub decreases-loop-p : goal.decreases-loop-p
decreases-loop-p l = length l.fn.finals.words - l.from
