use Rattle.std.proofs.Common.{arith}
use Rattle.hs_bits.proofs.WordLemmas.{kept-words}
use Rattle.hs_bits.proofs.words.keep_words.Goals as goal

pub returns-clause-bits : goal.returns-clause-bits
returns-clause-bits c = kept-words c.args.words.now c.args.row.now c.loop-place.words (λ i below. c.loop-place.invariant.kept i (omega arith))
