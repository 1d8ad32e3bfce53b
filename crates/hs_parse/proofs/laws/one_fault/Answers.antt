use Rattle.hs_parse.proofs.PathLemmas.{one_fault}
use Rattle.hs_parse.proofs.laws.one_fault.Goals as goal

pub returns : goal.returns
returns c = one_fault
