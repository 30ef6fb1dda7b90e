use Rattle.std.proofs.Common.{◌∙◌, true, sym, ap}
use Rattle.example_databases.specs.Endings.{EndingsValue}
use Rattle.example_databases.proofs.Following.{stays_lost, takes_none, takes_missed, takes_one, takes_late_one}
use Rattle.example_databases.proofs.endings.Endings.take_one.Goals as goal

pub returns-then-self-clause-ok : goal.returns-then-self-clause-ok
returns-then-self-clause-ok g c = stays_lost _ _ (sym (ap (λ (k : EndingsValue). k.is_lost) c.self.view_is) ∙ c.if-self.true)

pub returns-in-None-clause-ok : goal.returns-in-None-clause-ok
returns-in-None-clause-ok g c = takes_none _ _ _ _ (sym (ap (λ (k : EndingsValue). k.is_lost) c.self.view_is) ∙ c.if-self.false) c.in-None.ensures.takes

pub returns-in-Some-Missed-clause-ok : goal.returns-in-Some-Missed-clause-ok
returns-in-Some-Missed-clause-ok g c = takes_missed _ _ _ _ _ _ c.in-Some-Missed.field-0-is c.in-Some-Missed.ensures.takes _ (ap (λ (k : EndingsValue). record k { is_lost = true }) c.self-in-Some-Missed.view_is)

pub returns-in-Ok-clause-ok : goal.returns-in-Ok-clause-ok
returns-in-Ok-clause-ok g c = takes_one _ _ _ _ _ _ c.in-Some-Event.field-0-is c.in-Some-Event.ensures.takes _ c.in-Ok.ensures.ok.0 c.in-Ok.ensures.ok.1

pub returns-in-Err-clause-err : goal.returns-in-Err-clause-err
returns-in-Err-clause-err g c = (c.in-Err.ensures.err.0, takes_late_one _ _ _ _ _ _ c.in-Some-Event.field-0-is c.in-Some-Event.ensures.takes _ c.in-Err.ensures.err.1)
