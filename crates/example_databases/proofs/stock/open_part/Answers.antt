use Rattle.example_databases.proofs.Stocking.{part_opened, part_refused}
use Rattle.example_databases.proofs.stock.open_part.Goals as goal

pub returns-in-Ok : goal.returns-in-Ok
returns-in-Ok g c = λ table index agrees. part_opened g.P.Pages.store g.M.MergeOperator.meant c.args.db.now c.open_tree.new.self c.audit.ensures.sound table index agrees c.args.name.now c.in-Ok.tree c.in-Ok.ensures.ok

pub returns-in-Err : goal.returns-in-Err
returns-in-Err g c = λ table index agrees. part_refused g.P.Pages.store g.M.MergeOperator.meant c.args.db.now c.open_tree.new.self c.audit.ensures.sound table index agrees c.args.name.now c.in-Err.e c.in-Err.ensures.err
