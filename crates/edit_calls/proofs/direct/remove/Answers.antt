use Rattle.edit_calls.proofs.direct.remove.Goals as goal

pub returns-clause-changes : goal.returns-clause-changes
returns-clause-changes c = assumption

pub returns-clause-decides : goal.returns-clause-decides
returns-clause-decides c = assumption

pub returns-clause-refuses : goal.returns-clause-refuses
returns-clause-refuses c = assumption

pub returns-clause-leaves : goal.returns-clause-leaves
returns-clause-leaves c = assumption

pub returns-clause-steps : goal.returns-clause-steps
returns-clause-steps c = assumption

pub returns-clause-stops : goal.returns-clause-stops
returns-clause-stops c = assumption

pub returns-clause-gives_up : goal.returns-clause-gives_up
returns-clause-gives_up c = assumption
