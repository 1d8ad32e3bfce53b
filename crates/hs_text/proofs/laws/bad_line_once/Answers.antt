use Rattle.hs_text.proofs.FileLemmas as files
use Rattle.hs_text.proofs.laws.bad_line_once.Goals as goal

pub returns : goal.returns
returns c file m n p q = files.bad_once p q
