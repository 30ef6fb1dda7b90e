use Rattle.sled_nodes.specs.Among.{bound_of}
use Rattle.example_databases.proofs.Outside.{is_left, counts_within}
use Rattle.example_databases.proofs.ranges.keep_outside.Goals as goal

pub returns-in-Ok-clause-left : goal.returns-in-Ok-clause-left
returns-in-Ok-clause-left g c = is_left (bound_of c.args.lo) (bound_of c.args.hi) g.P.Pages.store g.M.MergeOperator.meant c.args.db.now c.args.tree.now c.in-Ok.count c.remove_range.new.self c.in-Ok.ensures.ok c.audit.ensures.ascend c.audit-in-Ok.ensures.ascend

pub returns-in-Ok-clause-counts : goal.returns-in-Ok-clause-counts
returns-in-Ok-clause-counts g c = counts_within (bound_of c.args.lo) (bound_of c.args.hi) g.P.Pages.store g.M.MergeOperator.meant c.args.db.now c.args.tree.now c.in-Ok.count c.remove_range.new.self c.in-Ok.ensures.ok
