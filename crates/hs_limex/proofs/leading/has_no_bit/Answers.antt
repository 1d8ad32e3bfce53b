use Rattle.std.proofs.Common.{◌&&◌}
use Rattle.hs_base.proofs.ContextLemmas.{of_both}
use Rattle.hs_limex.proofs.PlainLemmas.{true-false}
use Rattle.hs_base.specs.Bits.{has_word_bit}
use Rattle.hs_limex.proofs.leading.has_no_bit.Goals as goal

pub returns : goal.returns
returns c is k set =
    let bit = has_word_bit c.args.row.now k in
    true-false (bit && bit) (of_both bit bit set set) (c.are_apart.ensures.0 is k)
