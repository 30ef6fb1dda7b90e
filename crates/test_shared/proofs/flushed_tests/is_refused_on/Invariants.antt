use Rattle.test_shared.proofs.flushed_tests.is_refused_on.Given as goal

abbrev pub ghosts-is_refused : goal.ghosts-is_refused
ghosts-is_refused g a = record { name = a.blank.name; parts = a.blank.parts }
