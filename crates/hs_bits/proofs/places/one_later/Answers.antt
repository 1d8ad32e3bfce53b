use Rattle.std.proofs.Common.{zero, suc}
use Rattle.hs_bits.proofs.PlaceLemmas.{later-first, later-next}
use Rattle.hs_bits.proofs.places.one_later.Goals as goal

pub returns : goal.returns
returns c zero below = later-first c.args.word c.args.first
returns c (suc i) below = later-next c.args.word c.args.first i below
