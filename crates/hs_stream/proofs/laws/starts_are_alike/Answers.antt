use Rattle.hs_stream.proofs.WriteLemmas.{starts-alike}
use Rattle.hs_stream.proofs.laws.starts_are_alike.Goals as goal

pub returns : goal.returns
returns c = starts-alike
