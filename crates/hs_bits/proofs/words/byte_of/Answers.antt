use Rattle.hs_bits.proofs.PackedLemmas.{low-byte}
use Rattle.hs_bits.proofs.words.byte_of.Goals as goal

pub returns : goal.returns
returns c = low-byte c.args.words.now c.args.place
