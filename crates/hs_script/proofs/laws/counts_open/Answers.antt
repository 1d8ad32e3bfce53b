use Rattle.hs_script.proofs.CountLemmas as counts
use Rattle.hs_script.proofs.laws.counts_open.Goals as goal

pub returns : goal.returns
returns c basis files actions answers after r = counts.counts_open r
