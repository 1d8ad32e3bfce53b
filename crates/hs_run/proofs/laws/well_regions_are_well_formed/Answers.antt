use Rattle.hs_run.proofs.WellLemmas.{well-exact}
use Rattle.hs_run.proofs.laws.well_regions_are_well_formed.Goals as goal

pub returns : goal.returns
returns c t entries P l region is asks fits each = well-exact t entries P is asks l fits region each
