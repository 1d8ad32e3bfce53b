use Rattle.hs_judge_engines.proofs.spans.run.Given as goal

abbrev pub ghosts-step_through : goal.ghosts-step_through
ghosts-step_through g a = record { name = a.blank.name; parts = a.blank.parts }
