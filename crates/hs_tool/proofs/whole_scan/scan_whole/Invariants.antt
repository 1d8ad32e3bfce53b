use Rattle.hs_tool.proofs.whole_scan.scan_whole.Given as goal

-- the ledger is that of the blank which is handed over
abbrev pub ghosts-scan_counted : goal.ghosts-scan_counted
ghosts-scan_counted g a = record { name = a.blank.name; parts = a.blank.parts }
