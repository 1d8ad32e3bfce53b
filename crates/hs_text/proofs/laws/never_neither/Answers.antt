use Rattle.hs_text.proofs.FileLemmas as files
use Rattle.hs_text.proofs.laws.never_neither.Goals as goal

pub returns : goal.returns
returns c = files.never_neither
