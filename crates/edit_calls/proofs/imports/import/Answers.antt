use Rattle.edit_calls.proofs.imports.import.Goals as goal

pub returns-clause-ok : goal.returns-clause-ok
returns-clause-ok c = assumption

pub returns-clause-err : goal.returns-clause-err
returns-clause-err c = assumption

pub returns-clause-steps : goal.returns-clause-steps
returns-clause-steps c = assumption
