use Rattle.edit_calls.proofs.machine.step.Goals as goal

pub returns-clause-step : goal.returns-clause-step
returns-clause-step c = assumption

pub returns-clause-sound : goal.returns-clause-sound
returns-clause-sound c = assumption

pub returns-clause-does : goal.returns-clause-does
returns-clause-does c = assumption

pub returns-clause-follows : goal.returns-clause-follows
returns-clause-follows c = assumption

pub returns-clause-passes : goal.returns-clause-passes
returns-clause-passes c = assumption

pub returns-clause-slots : goal.returns-clause-slots
returns-clause-slots c = assumption

pub returns-clause-loses : goal.returns-clause-loses
returns-clause-loses c = assumption

pub returns-clause-leaves : goal.returns-clause-leaves
returns-clause-leaves c = assumption
