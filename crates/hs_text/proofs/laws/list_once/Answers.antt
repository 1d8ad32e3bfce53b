use Rattle.hs_text.proofs.FileLemmas as files
use Rattle.hs_text.proofs.laws.list_once.Goals as goal

pub returns : goal.returns
returns c file xs ys p q = files.list_once p q
