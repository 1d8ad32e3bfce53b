use Rattle.hs_bits.proofs.NextLemmas.{next-same}
use Rattle.hs_bits.proofs.next.next_bit_in.Goals as goal

pub returns : goal.returns
returns c = next-same c.args.words.now c.args.from c.args.end c.next_bit_in_either.result c.next_bit_in_either.ensures
