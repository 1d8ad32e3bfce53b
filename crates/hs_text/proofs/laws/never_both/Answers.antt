use Rattle.hs_text.proofs.FileLemmas as files
use Rattle.hs_text.proofs.laws.never_both.Goals as goal

pub returns : goal.returns
returns c file entries number p q = files.never_both p q
