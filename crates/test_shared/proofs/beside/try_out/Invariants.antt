use Rattle.test_shared.proofs.beside.try_out.Given as goal

abbrev pub ghosts-try_among : goal.ghosts-try_among
ghosts-try_among g a = record { name = a.blank.name; parts = a.blank.parts }
