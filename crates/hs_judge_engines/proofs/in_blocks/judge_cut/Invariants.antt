use Rattle.hs_judge_engines.proofs.in_blocks.judge_cut.Given as goal

abbrev pub ghosts-tells_text : goal.ghosts-tells_text
ghosts-tells_text g a = record { name = a.blank.name; parts = a.blank.parts }
