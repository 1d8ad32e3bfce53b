use Rattle.hs_script.proofs.ScriptLemmas as scripts
use Rattle.hs_script.proofs.laws.script_once.Goals as goal

pub returns : goal.returns
returns c bytes xs ys e f p q = scripts.script_once p q
