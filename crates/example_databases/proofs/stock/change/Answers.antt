use Rattle.std.proofs.Common.{subst}
use Rattle.std.specs.Option.{option_copied}
use Rattle.sled.specs.Groups.{GroupDecided}
use Rattle.example_databases.proofs.Stocking.{moved, not_moved}
use Rattle.example_databases.proofs.stock.change.Goals as goal

pub returns-in-Ok-made-clause-ok : goal.returns-in-Ok-made-clause-ok
returns-in-Ok-made-clause-ok g c = λ agrees. moved g.P.Pages.store g.M.MergeOperator.meant c.law_one_to_one.ensures c.args.db.now c.apply_group-made.new.self c.audit.ensures.sound c.args.table.now c.args.index.now agrees c.args.item.now c.in-Ok.from (option_copied c.args.to) c.in-Ok.ensures.ok
    (subst (λ batches. GroupDecided g.P.Pages.store g.M.MergeOperator.meant c.args.db.now batches c.apply_group-made.new.self) c.in-Ok-group_of.ensures c.in-Ok-made.ensures.ok)

pub returns-in-Err-made-clause-err : goal.returns-in-Err-made-clause-err
returns-in-Err-made-clause-err g c = λ agrees. not_moved g.P.Pages.store g.M.MergeOperator.meant c.args.db.now c.apply_group-made.new.self c.audit.ensures.sound c.args.table.now.name c.args.index.now.name agrees _ _ c.in-Err-made.ensures.err
