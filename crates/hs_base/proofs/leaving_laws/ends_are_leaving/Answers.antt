use Rattle.hs_base.proofs.EntryLemmas.{ends-leaving}
use Rattle.hs_base.proofs.leaving_laws.ends_are_leaving.Goals as goal

pub returns : goal.returns
returns c = ends-leaving
