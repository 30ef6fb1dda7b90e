use Rattle.test_shared.proofs.export_tests.export_all.Given as goal

abbrev pub ghosts-export_and_import : goal.ghosts-export_and_import
ghosts-export_and_import g a = record { name = a.blank.name; parts = a.blank.parts }
