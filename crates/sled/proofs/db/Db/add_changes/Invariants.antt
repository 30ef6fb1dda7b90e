use Rattle.sled_model.specs.Groups.{writes_of, after_writes}
use Rattle.sled.specs.Values.{db_state, snapshot_of_db}
use Rattle.sled_store.specs.Store.{now}
use Rattle.tree_reads.specs.Walk.{IsWay}
use Rattle.sled.proofs.Changes.{Added}
use Rattle.sled.proofs.db.Db.add_changes.Given as goal

-- the writes so far are added, and the way is one of the tree
abbrev pub invariant-loop-key : goal.invariant-loop-key
invariant-loop-key g l = Added (snapshot_of_db g.P.Pages.store l.self) l.tree l.batch (after_writes (writes_of l.before) (db_state g.P.Pages.store g.M.MergeOperator.meant l.self)) l.fn.writes.items l.writes.items l.key-iterator
    × IsWay (now (g.P.Pages.store l.self.pages)) l.root l.way.items
