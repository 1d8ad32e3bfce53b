use Rattle.hs_stream.proofs.SavingLemmas.{one-file}
use Rattle.hs_stream.proofs.saving_laws.histories_have_one_file.Goals as goal

pub returns : goal.returns
returns c = one-file
