use Rattle.hs_parse.proofs.SetLemmas.{members-inserted, no_member}
use Rattle.hs_parse.proofs.set.set_where.Goals as goal

pub returns : goal.returns
returns c = members-inserted _ _ c.args.test no_member c.insert_where.ensures
