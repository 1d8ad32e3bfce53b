use Rattle.hs_bits.proofs.PlaceLemmas.{low-none, low-some}
use Rattle.hs_bits.proofs.places.low_places.Goals as goal

pub returns-then-count-eq0 : goal.returns-then-count-eq0
returns-then-count-eq0 c i = low-none c.args.count i c.if-count-eq0.true

pub returns-else-count-eq0 : goal.returns-else-count-eq0
returns-else-count-eq0 c i = low-some c.args.count i c.requires
