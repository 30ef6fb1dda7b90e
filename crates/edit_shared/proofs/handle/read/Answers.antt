use Rattle.edit_shared.proofs.handle.read.Goals as goal

pub returns-clause-kind : goal.returns-clause-kind
returns-clause-kind c = assumption

pub returns-clause-ok : goal.returns-clause-ok
returns-clause-ok c = assumption

pub returns-clause-err : goal.returns-clause-err
returns-clause-err c = assumption

pub returns-clause-number : goal.returns-clause-number
returns-clause-number c = assumption

pub returns-clause-looks : goal.returns-clause-looks
returns-clause-looks c = assumption
