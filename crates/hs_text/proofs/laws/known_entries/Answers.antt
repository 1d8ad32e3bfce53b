use Rattle.hs_text.proofs.KnownLemmas as known
use Rattle.hs_text.proofs.laws.known_entries.Goals as goal

pub returns : goal.returns
returns c file entries list = known.entries_known list
