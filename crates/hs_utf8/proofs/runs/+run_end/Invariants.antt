use Rattle.hs_utf8.proofs.runs.+run_end.Given as goal

abbrev pub decreases-run_end : goal.decreases-run_end
decreases-run_end l = l.tail
