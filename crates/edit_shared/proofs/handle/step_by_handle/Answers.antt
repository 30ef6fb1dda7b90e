use Rattle.edit_shared.proofs.handle.step_by_handle.Goals as goal

pub returns-clause-made : goal.returns-clause-made
returns-clause-made c = assumption

pub returns-clause-number : goal.returns-clause-number
returns-clause-number c = assumption

pub returns-clause-steps : goal.returns-clause-steps
returns-clause-steps c = assumption
