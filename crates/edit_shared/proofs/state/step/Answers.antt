use Rattle.edit_shared.proofs.state.step.Goals as goal

pub returns-clause-step : goal.returns-clause-step
returns-clause-step c = assumption

pub returns-clause-history : goal.returns-clause-history
returns-clause-history c = assumption

pub returns-clause-made : goal.returns-clause-made
returns-clause-made c = assumption

pub returns-clause-number : goal.returns-clause-number
returns-clause-number c = assumption

pub returns-clause-opening : goal.returns-clause-opening
returns-clause-opening c = assumption
