use Rattle.std.proofs.Common.{◌+◌, ◌∙◌, arith}
use Rattle.hs_engine.specs.Rows.{in_row}
use Rattle.hs_bits.proofs.WordLemmas.{all-under}
use Rattle.hs_limex.proofs.NumberLemmas.{in_row-past}
use Rattle.hs_limex.specs.SmallWords.{one_context}
use Rattle.hs_limex.proofs.small_filling.near_word.Goals as goal

pub returns : goal.returns
returns c k =
    let follows = c.args.follows.now in
    let to = k + c.args.distance in
    c.loop-position.invariant k
    ∙ all-under k c.loop-position.position (in_row follows k to one_context) (λ past. in_row-past follows k to one_context (omega (arith, past)))
