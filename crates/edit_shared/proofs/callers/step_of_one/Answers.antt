use Rattle.edit_shared.proofs.callers.step_of_one.Goals as goal

pub returns-clause-history : goal.returns-clause-history
returns-clause-history c = assumption

pub returns-clause-made : goal.returns-clause-made
returns-clause-made c = assumption

pub returns-clause-untouched : goal.returns-clause-untouched
returns-clause-untouched c = assumption
