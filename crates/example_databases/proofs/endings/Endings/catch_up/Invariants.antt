use Rattle.std.proofs.Common.{◌≡◌, length}
use Rattle.sled.specs.Values.{db_state}
use Rattle.example_databases.specs.Endings.{CatchesUp}
use Rattle.example_databases.proofs.endings.Endings.catch_up.Given as goal

abbrev pub invariant-loop : goal.invariant-loop
invariant-loop g l =
    (c : CatchesUp (db_state g.P.Pages.store g.M.MergeOperator.meant l.fn.db) l.fn.self (db_state g.P.Pages.store g.M.MergeOperator.meant l.db) l.self)
    × (length c.events ≡ l.counter)
    × (l.db ≡ record (l.fn.db) { queues = l.db.queues })
