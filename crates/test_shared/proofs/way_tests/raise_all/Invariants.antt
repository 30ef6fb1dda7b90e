use Rattle.test_shared.proofs.way_tests.raise_all.Given as goal

abbrev pub ghosts-raised : goal.ghosts-raised
ghosts-raised g a = record { name = a.blank.name; parts = a.blank.parts }
