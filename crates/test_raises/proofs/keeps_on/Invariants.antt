use Rattle.test_raises.proofs.keeps_on.Given as goal

abbrev pub ghosts-keeps : goal.ghosts-keeps
ghosts-keeps g a = record { name = a.blank.name; parts = a.blank.parts }
