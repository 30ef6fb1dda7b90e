use Rattle.edit_shared.proofs.handle.call.Goals as goal

pub returns-clause-made : goal.returns-clause-made
returns-clause-made c = assumption

pub returns-clause-number : goal.returns-clause-number
returns-clause-number c = assumption

pub returns-clause-ends : goal.returns-clause-ends
returns-clause-ends c = assumption
