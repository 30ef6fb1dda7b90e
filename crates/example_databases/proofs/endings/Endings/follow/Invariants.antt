use Rattle.std.proofs.Common.{◌≡◌, length}
use Rattle.sled.specs.Values.{db_state}
use Rattle.example_databases.specs.Endings.{CatchesUp, to_come}
use Rattle.example_databases.proofs.endings.Endings.follow.Given as goal

abbrev pub invariant-loop-self : goal.invariant-loop-self
invariant-loop-self g l =
    CatchesUp (db_state g.P.Pages.store g.M.MergeOperator.meant l.fn.db) l.fn.self (db_state g.P.Pages.store g.M.MergeOperator.meant l.db) l.self
    × (l.db ≡ record (l.fn.db) { queues = l.db.queues })

abbrev pub decreases-loop-self : goal.decreases-loop-self
decreases-loop-self g l = length (to_come l.self (db_state g.P.Pages.store g.M.MergeOperator.meant l.db))
