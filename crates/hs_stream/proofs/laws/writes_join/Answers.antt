use Rattle.hs_stream.proofs.WriteLemmas.{writes-join}
use Rattle.hs_stream.proofs.laws.writes_join.Goals as goal

pub returns : goal.returns
returns c = writes-join
