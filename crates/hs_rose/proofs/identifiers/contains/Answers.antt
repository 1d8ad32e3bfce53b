use Rattle.std.proofs.Common.{◌∙◌}
use Rattle.hs_rose.proofs.IdLemmas.{found-has_id}
use Rattle.hs_rose.proofs.identifiers.contains.Goals as goal

pub returns : goal.returns
returns c = c.is_ok.ensures.value ∙ found-has_id c.args.ids.now c.args.id c.binary_search.result c.requires c.binary_search.ensures.position
