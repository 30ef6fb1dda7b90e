use Rattle.test_shared.proofs.again_tests.share_twice.Given as goal

abbrev pub ghosts-share_both-K-Ledger : goal.ghosts-share_both-K-Ledger
ghosts-share_both-K-Ledger g a = record { name = a.first.name; parts = a.first.parts }

abbrev pub ghosts-share_both-L-Ledger : goal.ghosts-share_both-L-Ledger
ghosts-share_both-L-Ledger g a = record { name = a.second.name; parts = a.second.parts }
