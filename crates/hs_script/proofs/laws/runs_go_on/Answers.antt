use Rattle.hs_script.proofs.JoinLemmas.{run_step, text_step}
use Rattle.hs_script.proofs.laws.runs_go_on.Goals as goal

pub returns : goal.returns
returns c basis actions answers action answer from m after r s = record { run = run_step r s; text = text_step action answer r }
