use Rattle.std.proofs.Common.{None, ap, ◌∙◌}
use Rattle.example_databases.specs.Endings.{EndingsValue}
use Rattle.example_databases.proofs.Following.{begins_anew_as}
use Rattle.example_databases.proofs.endings.Endings.begin_anew.Goals as goal

pub returns-in-Ok-clause-ok : goal.returns-in-Ok-clause-ok
returns-in-Ok-clause-ok g c = begins_anew_as _ _ _ _ _ _ _ _ _ (ap (λ (k : EndingsValue). k.tree) c.self.view_is) (c.as_ref.ensures ∙ ap (λ (k : EndingsValue). k.prefix) c.self.view_is) c.replace-lost.ensures.after c.replace-lost.ensures.value c.in-Ok.ensures.ok (c.in-Ok.ensures.watches.watches (λ n. None) 0) (c.end.ensures.gives_up (λ n. None) 0)
