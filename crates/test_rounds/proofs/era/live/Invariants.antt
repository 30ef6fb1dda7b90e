use Rattle.test_rounds.proofs.era.live.Given as goal

abbrev pub ghosts-run-K-Ledger : goal.ghosts-run-K-Ledger
ghosts-run-K-Ledger g a = record { name = a.first.name; parts = a.first.parts }

abbrev pub ghosts-run-L-Ledger : goal.ghosts-run-L-Ledger
ghosts-run-L-Ledger g a = record { name = a.second.name; parts = a.second.parts }
