use Rattle.test_shared.proofs.flushed_tests.go_on.Given as goal

abbrev pub ghosts-go : goal.ghosts-go
ghosts-go g a = record { name = a.blank.name; parts = a.blank.parts }
