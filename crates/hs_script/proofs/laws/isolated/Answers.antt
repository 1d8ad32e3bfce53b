use Rattle.hs_script.proofs.IsolationLemmas as isolation
use Rattle.hs_script.proofs.laws.isolated.Goals as goal

pub returns : goal.returns
returns c basis files files' name actions actions' xs ys m n r q same shown known owns owns' =
    isolation.isolated name actions actions' xs ys r q same shown known owns owns'
