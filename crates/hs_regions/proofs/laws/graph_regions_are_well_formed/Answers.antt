use Rattle.hs_regions.proofs.ExactLemmas.{regions-exact}
use Rattle.hs_regions.proofs.laws.graph_regions_are_well_formed.Goals as goal

pub returns : goal.returns
returns g c = regions-exact g.E.Engine.meaning
