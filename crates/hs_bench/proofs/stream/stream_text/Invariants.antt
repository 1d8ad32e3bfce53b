use Rattle.hs_bench.proofs.stream.stream_text.Given as goal

-- the ledger is that of the blank which is handed over
abbrev pub ghosts-stream_counted : goal.ghosts-stream_counted
ghosts-stream_counted a = record { name = a.blank.name; parts = a.blank.parts }
