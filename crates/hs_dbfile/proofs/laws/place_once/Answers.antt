use Rattle.hs_dbfile.proofs.FileLemmas.{is_place_once}
use Rattle.hs_dbfile.proofs.laws.place_once.Goals as goal

pub returns : goal.returns
returns c = is_place_once
