use Rattle.std.proofs.Common.{◌*◌, length}
use Rattle.std.proofs.lemmas.Bool.{not-true, not_from_false}
use Rattle.hs_bits.proofs.BitRangeLemmas.{bits-none, denied, no-bit}
use Rattle.hs_states.proofs.StateLemmas.{true-false}
use Rattle.hs_dfa.proofs.set_dfa.is_clear_from.Goals as goal

pub returns : goal.returns
returns c = (
  λ told. bits-none c.args.set.now c.args.first (λ some. true-false c.has_bit_in.result (c.has_bit_in.ensures.1 some) (not-true c.has_bit_in.result told)),
  λ clear. not_from_false c.has_bit_in.result
      (denied c.has_bit_in.result (λ is. no-bit c.args.set.now c.args.first (8 * length c.args.set.now) (λ k above below. clear k above) (c.has_bit_in.ensures.0 is))),
)
