use Rattle.hs_script.proofs.CutLemmas as cuts
use Rattle.hs_script.proofs.laws.cut_anywhere.Goals as goal

pub returns : goal.returns
returns c basis k l m a b f name h v w x y z i j o short p q r = cuts.cut_anywhere short p q r
