use Rattle.std.proofs.Common.{arith}
use Rattle.hs_bits.proofs.WordLemmas.{united-words}
use Rattle.hs_bits.proofs.words.unite_words.Goals as goal

pub returns-clause-bits : goal.returns-clause-bits
returns-clause-bits c =
    united-words c.args.words.now c.args.row.now c.loop-place.words (λ i below. c.loop-place.invariant.united i (omega arith)) (λ i above. c.loop-place.invariant.kept i (omega arith))
