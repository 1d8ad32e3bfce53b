use Rattle.std.proofs.Common.{◌∙◌}
use Rattle.hs_bits.proofs.CountLemmas.{ones-of-part}
use Rattle.hs_bits.proofs.places.count_places.Goals as goal

pub returns : goal.returns
returns c = c.from.ensures ∙ ones-of-part c.args.word c.args.from c.args.end c.low_places.result c.low_places.type_inv c.requires.end c.low_places.ensures
