use Rattle.std.proofs.Common.{arith}
use Rattle.hs_states.proofs.FootingLemmas.{kept-bits}
use Rattle.hs_states.proofs.footing.keep.Goals as goal

pub returns : goal.returns
returns c = kept-bits c.args.words.now c.args.row.now c.keep_words.new.words (omega arith) (omega arith) c.keep_words.ensures.len c.keep_words.ensures.bits
