use Rattle.std.proofs.Common.{length, inl, inr, arith}
use Rattle.std.proofs.lemmas.Bool.{cases_lt}
use Rattle.hs_bits.proofs.WordLemmas.{words-zero}
use Rattle.std.proofs.lemmas.List.{get_or_past}
use Rattle.hs_keeping.proofs.leaving.leave_none.Goals as goal

pub returns-clause-none : goal.returns-clause-none
returns-clause-none c =
    words-zero c.loop-word.last (λ i. elim (cases_lt i (length c.loop-word.last)) [
      | inl below ↦ c.loop-word.invariant i (omega (arith, below))
      | inr past ↦ get_or_past c.loop-word.last i 0 past
    ])
