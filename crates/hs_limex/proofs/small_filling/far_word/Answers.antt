use Rattle.std.proofs.Common.{arith}
use Rattle.hs_limex.proofs.NumberLemmas.{in_row-from}
use Rattle.hs_limex.specs.SmallWords.{one_context}
use Rattle.hs_limex.proofs.small_filling.far_word.Goals as goal

pub returns-clause-rest : goal.returns-clause-rest
returns-clause-rest c x y is beside =
    c.loop-position.invariant.rest x y (omega (arith, in_row-from c.args.follows.now x y one_context is)) is beside
