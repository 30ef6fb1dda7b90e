use Rattle.test_raises.proofs.go_on.Given as goal

abbrev pub ghosts-go : goal.ghosts-go
ghosts-go g a = record { name = a.blank.name; parts = a.blank.parts }
