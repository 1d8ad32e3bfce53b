use Rattle.hs_example.proofs.scan.Given as goal

-- the ledger is that of the blank which is handed over
abbrev pub ghosts-scan_counted : goal.ghosts-scan_counted
ghosts-scan_counted a = record { name = a.blank.name; parts = a.blank.parts }
