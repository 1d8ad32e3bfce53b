use Rattle.hs_tool.proofs.session.serve.Given as goal

-- the ledger is that of the blank which is handed over
abbrev pub ghosts-serve_counted : goal.ghosts-serve_counted
ghosts-serve_counted g a = record { name = a.blank.name; parts = a.blank.parts }
