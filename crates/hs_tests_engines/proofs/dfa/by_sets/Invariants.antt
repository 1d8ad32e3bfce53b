use Rattle.hs_tests_engines.proofs.dfa.by_sets.Given as goal

abbrev pub ghosts-taken_by_sets : goal.ghosts-taken_by_sets
ghosts-taken_by_sets a = record { name = a.blank.name; parts = a.blank.parts }
