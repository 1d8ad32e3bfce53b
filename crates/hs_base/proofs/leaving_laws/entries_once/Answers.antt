use Rattle.hs_base.proofs.EntryLemmas.{entries-once}
use Rattle.hs_base.proofs.leaving_laws.entries_once.Goals as goal

pub returns : goal.returns
returns c = entries-once
