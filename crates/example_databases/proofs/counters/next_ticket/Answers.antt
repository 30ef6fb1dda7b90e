use Rattle.std.proofs.Common.{rules, sym, subst}
use Rattle.example_parts.specs.Reads.{maps_now}
use Rattle.example_databases.specs.Counters.{SetsCounter}
use Rattle.example_databases.proofs.Counting.{set_raised}
use Rattle.example_databases.proofs.counters.next_ticket.Goals as goal

pub returns-clause-sets : goal.returns-clause-sets
returns-clause-sets g c =
    subst (λ n. SetsCounter (maps_now g.P.Pages.store g.M.MergeOperator.meant c.args.db.now) (maps_now g.P.Pages.store g.M.MergeOperator.meant c.update_and_fetch.new.self) c.args.tree.now.name c.args.name.now n) (sym c.number_at-ticket.ensures)
    (set_raised g.P.Pages.store g.M.MergeOperator.meant _ _ _ _ _ _ _ _ c.in-Ok.ensures.ok.1 (λ shown answer after k. search rules))
