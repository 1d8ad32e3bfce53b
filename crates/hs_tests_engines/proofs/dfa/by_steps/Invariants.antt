use Rattle.hs_tests_engines.proofs.dfa.by_steps.Given as goal

abbrev pub ghosts-block_by_steps : goal.ghosts-block_by_steps
ghosts-block_by_steps a = record { name = a.blank.name; parts = a.blank.parts }
