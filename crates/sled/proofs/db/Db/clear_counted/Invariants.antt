use Rattle.sled.specs.Values.{db_state}
use Rattle.sled.proofs.Popping.{IsClearing, size_of}
use Rattle.sled.proofs.db.Db.clear_counted.Given as goal

abbrev pub invariant-parts : goal.invariant-parts
invariant-parts g l = IsClearing g.P.Pages.store g.M.MergeOperator.meant l.fn.self l.tree l.count l.self

abbrev pub decreases-parts : goal.decreases-parts
decreases-parts g l = size_of ((db_state g.P.Pages.store g.M.MergeOperator.meant l.self).trees l.tree.name)
