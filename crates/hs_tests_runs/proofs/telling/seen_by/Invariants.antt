use Rattle.hs_tests_runs.proofs.telling.seen_by.Given as goal

-- the ledger is that of the blank which is handed over
abbrev pub ghosts-seen_in : goal.ghosts-seen_in
ghosts-seen_in a = record { name = a.blank.name; parts = a.blank.parts }
