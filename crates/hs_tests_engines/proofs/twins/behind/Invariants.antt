use Rattle.hs_tests_engines.proofs.twins.behind.Given as goal

abbrev pub ghosts-step_through : goal.ghosts-step_through
ghosts-step_through g a = record { name = a.blank.name; parts = a.blank.parts }
