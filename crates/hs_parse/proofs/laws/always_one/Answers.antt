use Rattle.hs_parse.proofs.TotalLemmas.{always_one}
use Rattle.hs_parse.proofs.laws.always_one.Goals as goal

pub returns : goal.returns
returns c = always_one
