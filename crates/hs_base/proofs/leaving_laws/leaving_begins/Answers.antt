use Rattle.hs_base.proofs.ChainStreamLemmas.{leaving-begins}
use Rattle.hs_base.proofs.leaving_laws.leaving_begins.Goals as goal

pub returns : goal.returns
returns c = leaving-begins
