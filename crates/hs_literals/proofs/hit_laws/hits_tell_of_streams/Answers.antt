use Rattle.hs_literals.proofs.HitStreamLemmas.{hits-of_stream}
use Rattle.hs_literals.proofs.hit_laws.hits_tell_of_streams.Goals as goal

pub returns : goal.returns
returns c = hits-of_stream
