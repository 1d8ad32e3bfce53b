use Rattle.hs_bench.proofs.blocks.left_in.Given as goal

-- the ledger is that of the blank which is handed over
abbrev pub ghosts-left_counted : goal.ghosts-left_counted
ghosts-left_counted g a = record { name = a.blank.name; parts = a.blank.parts }
