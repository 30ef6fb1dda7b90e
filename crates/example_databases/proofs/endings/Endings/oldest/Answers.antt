use Rattle.std.proofs.Common.{None}
use Rattle.example_databases.proofs.Following.{takes_late, takes_waiting}
use Rattle.example_databases.proofs.endings.Endings.oldest.Goals as goal

pub returns-in-Some-clause-takes : goal.returns-in-Some-clause-takes
returns-in-Some-clause-takes g c = takes_late _ _ _ _ _ _ _ _ _ c.self.view_is c.in-Some.ensures.after _ c.in-Some.ensures.value

pub returns-clause-takes : goal.returns-clause-takes
returns-clause-takes g c = takes_waiting _ _ _ _ _ _ _ _ _ _ c.self.view_is c.in_default.ensures.after c.in_default.ensures.value _ (c.next.ensures.takes.takes (λ n. None) 0)
