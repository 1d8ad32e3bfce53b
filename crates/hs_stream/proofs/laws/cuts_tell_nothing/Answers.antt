use Rattle.hs_stream.proofs.WriteLemmas.{cuts-tell_nothing}
use Rattle.hs_stream.proofs.laws.cuts_tell_nothing.Goals as goal

pub returns : goal.returns
returns c = cuts-tell_nothing
