use Rattle.test_shared.proofs.closing_tests.look_at.Given as goal

abbrev pub ghosts-share_and_look : goal.ghosts-share_and_look
ghosts-share_and_look g a = record { name = a.blank.name; parts = a.blank.parts }
