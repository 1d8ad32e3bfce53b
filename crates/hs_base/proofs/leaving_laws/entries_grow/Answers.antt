use Rattle.hs_base.proofs.EntryLemmas.{entries-grow}
use Rattle.hs_base.proofs.leaving_laws.entries_grow.Goals as goal

pub returns : goal.returns
returns c = entries-grow
