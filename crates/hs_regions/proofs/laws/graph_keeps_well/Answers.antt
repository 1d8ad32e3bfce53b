use Rattle.hs_regions.proofs.WellLemmas.{keeps-well}
use Rattle.hs_regions.proofs.laws.graph_keeps_well.Goals as goal

pub returns : goal.returns
returns g c = keeps-well g.E.Engine.meaning
