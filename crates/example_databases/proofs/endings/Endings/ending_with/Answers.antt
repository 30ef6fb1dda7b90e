use Rattle.std.proofs.Common.{ap, ◌∙◌}
use Rattle.example_databases.specs.Endings.{EndingsValue}
use Rattle.example_databases.proofs.Turned.{finds_at, finds_all}
use Rattle.example_databases.proofs.endings.Endings.ending_with.Goals as goal

pub returns-in-Ok-beginning_so-clause-ok : goal.returns-in-Ok-beginning_so-clause-ok
returns-in-Ok-beginning_so-clause-ok c = finds_at _ _ _ _ _ _ _ (ap (λ (k : EndingsValue). k.entries) c.self.view_is) c.range.ensures.ordered (c.as_ref.ensures ∙ c.in_ok-turned.ensures.ok) (c.in-Ok.ensures.ok ∙ c.in_ok-turned.ensures.ok) (c.range.ensures.between tt) c.in-Ok-beginning_so.ensures.ok

pub returns-in-Ok-beginning_so-clause-finds : goal.returns-in-Ok-beginning_so-clause-finds
returns-in-Ok-beginning_so-clause-finds c = finds_all _ _ _ _ (ap (λ (k : EndingsValue). k.entries) c.self.view_is) c.range.ensures.ordered (finds_at _ _ _ _ _ _ _ (ap (λ (k : EndingsValue). k.entries) c.self.view_is) c.range.ensures.ordered (c.as_ref.ensures ∙ c.in_ok-turned.ensures.ok) (c.in-Ok.ensures.ok ∙ c.in_ok-turned.ensures.ok) (c.range.ensures.between tt) c.in-Ok-beginning_so.ensures.ok)
