use Rattle.hs_dbfile.proofs.FileLemmas.{is_file_once}
use Rattle.hs_dbfile.proofs.laws.file_once.Goals as goal

pub returns : goal.returns
returns c = is_file_once
