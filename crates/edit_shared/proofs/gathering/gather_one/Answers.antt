use Rattle.edit_shared.proofs.gathering.gather_one.Goals as goal

pub returns-clause-count : goal.returns-clause-count
returns-clause-count c = assumption

pub returns-clause-others : goal.returns-clause-others
returns-clause-others c = assumption

pub returns-clause-opening : goal.returns-clause-opening
returns-clause-opening c = assumption

pub returns-clause-err : goal.returns-clause-err
returns-clause-err c = assumption

pub returns-clause-numbers : goal.returns-clause-numbers
returns-clause-numbers c = assumption

pub returns-clause-made : goal.returns-clause-made
returns-clause-made c = assumption

pub returns-clause-legal : goal.returns-clause-legal
returns-clause-legal c = assumption

pub returns-clause-ids : goal.returns-clause-ids
returns-clause-ids c = assumption
