use Rattle.hs_judge.proofs.scanning.judge_cases.Given as goal

abbrev pub ghosts-judge_counted : goal.ghosts-judge_counted
ghosts-judge_counted g a = record { name = a.blank.name; parts = a.blank.parts }
