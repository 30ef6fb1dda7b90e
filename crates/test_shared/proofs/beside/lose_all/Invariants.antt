use Rattle.test_shared.proofs.beside.lose_all.Given as goal

abbrev pub ghosts-lose_among : goal.ghosts-lose_among
ghosts-lose_among g a = record { name = a.blank.name; parts = a.blank.parts }
