use Rattle.edit_calls.proofs.transactions.transaction.Goals as goal

pub returns-clause-ok : goal.returns-clause-ok
returns-clause-ok c = assumption

pub returns-clause-err : goal.returns-clause-err
returns-clause-err c = assumption
