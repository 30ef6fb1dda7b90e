use Rattle.std.proofs.Common.{[], ◌∷◌, refl, ap, ◌∙◌, subst}
use Rattle.sled.specs.Groups.{GroupDecided, GroupRefused}
use Rattle.example_databases.specs.Batches.{written}
use Rattle.example_databases.proofs.Batched.{batch_loaded, batch_stops, nothing_written}
use Rattle.example_databases.proofs.batches.load_batch.Goals as goal

pub returns-in-Err-clause-err : goal.returns-in-Err-clause-err
returns-in-Err-clause-err g c = nothing_written g.P.Pages.store g.M.MergeOperator.meant c.args.db.now c.args.db.now refl

pub returns-in-Ok-clause-ok : goal.returns-in-Ok-clause-ok
returns-in-Ok-clause-ok g c = batch_loaded g.P.Pages.store g.M.MergeOperator.meant c.args.db.now c.apply_batch.new.self c.args.tree.now c.args.pairs.now c.audit.ensures.ascend c.audit-in-Ok.ensures.ascend
    (subst (λ ws. GroupDecided g.P.Pages.store g.M.MergeOperator.meant c.args.db.now ((c.args.tree.now, ws) ∷ []) c.apply_batch.new.self) (c.in_default.ensures ∙ ap (written c.args.pairs.now) c.default-batch.ensures) c.in-Ok.ensures.ok)

pub returns-in-Err-apply_batch-clause-err : goal.returns-in-Err-apply_batch-clause-err
returns-in-Err-apply_batch-clause-err g c = batch_stops g.P.Pages.store g.M.MergeOperator.meant c.args.db.now c.apply_batch.new.self c.args.tree.now c.args.pairs.now c.in-Err-apply_batch.e
    (subst (λ ws. GroupRefused g.P.Pages.store g.M.MergeOperator.meant c.args.db.now ((c.args.tree.now, ws) ∷ []) c.in-Err-apply_batch.e c.apply_batch.new.self) (c.in_default.ensures ∙ ap (written c.args.pairs.now) c.default-batch.ensures) c.in-Err-apply_batch.ensures.err)
