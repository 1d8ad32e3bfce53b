use Rattle.hs_tests_runs.proofs.soaking.told_anew.Given as goal

-- the ledger is that of the blank which is handed over
abbrev pub ghosts-told_by_scratch : goal.ghosts-told_by_scratch
ghosts-told_by_scratch a = record { name = a.blank.name; parts = a.blank.parts }
