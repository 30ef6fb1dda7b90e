use Rattle.std.proofs.Common.{◌≡◌, drop}
use Rattle.sled_model.specs.Refusal.{foreign_test, dropped_test}
use Rattle.sled.specs.Values.{db_state}
use Rattle.sled.specs.Transactions.{trees_of_list}
use Rattle.sled.proofs.db.Db.check_list.Given as goal

-- the trees so far are this database's
abbrev pub invariant-loop-tree : goal.invariant-loop-tree
invariant-loop-tree g l = foreign_test l.self.name (trees_of_list l.trees) ≡ foreign_test l.self.name (trees_of_list (drop l.tree-index l.trees))

-- .. and none of them was dropped
abbrev pub invariant-loop-tree-2 : goal.invariant-loop-tree-2
invariant-loop-tree-2 g l = dropped_test (db_state g.P.Pages.store g.M.MergeOperator.meant l.self) (trees_of_list l.trees) ≡ dropped_test (db_state g.P.Pages.store g.M.MergeOperator.meant l.self) (trees_of_list (drop l.tree-index l.trees))
