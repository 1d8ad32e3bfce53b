use Rattle.hs_stream.proofs.runs.run.Given as goal

-- the ledger is that of the blank which is handed over
abbrev pub ghosts-run_counted : goal.ghosts-run_counted
ghosts-run_counted g a = record { name = a.blank.name; parts = a.blank.parts }
