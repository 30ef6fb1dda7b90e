use Rattle.test_shared.proofs.transaction_tests.transact_all.Given as goal

abbrev pub ghosts-share_and_make : goal.ghosts-share_and_make
ghosts-share_and_make g a = record { name = a.blank.name; parts = a.blank.parts }
