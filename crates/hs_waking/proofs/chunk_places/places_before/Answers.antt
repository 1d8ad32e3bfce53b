use Rattle.hs_waking.proofs.WordLemmas.{all-ones}
use Rattle.hs_waking.proofs.chunk_places.places_before.Goals as goal

pub returns-then-end-eq-MAX_CHUNK : goal.returns-then-end-eq-MAX_CHUNK
returns-then-end-eq-MAX_CHUNK c p below = all-ones p c.args.end c.if-end-eq-MAX_CHUNK.true below
