use Rattle.std.proofs.Common.{rules, refl}
use Rattle.example_parts.specs.Counters.{adding}
use Rattle.example_databases.proofs.Counting.{added}
use Rattle.example_databases.proofs.counters.add_to_counter.Goals as goal

pub returns-clause-ok : goal.returns-clause-ok
returns-clause-ok g c = added g.P.Pages.store (λ o. adding) (λ o. refl) _ _ _ _ _ _ c.in-Ok.ensures.decides c.args.n (search rules) (search rules)
