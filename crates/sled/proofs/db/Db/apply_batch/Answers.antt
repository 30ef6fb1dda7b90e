use Rattle.std.proofs.Common.{[], ◌∷◌, Err, OnOk, subst}
use Rattle.sled.specs.Written.{WritesMaps}
use Rattle.sled.proofs.Grouping.{group_untested, group_short}
use Rattle.sled.proofs.Keeping.{group_refuses, group_leaves}
use Rattle.sled.proofs.Writing.{batch_wrote}
use Rattle.sled.proofs.db.Db.apply_batch.Goals as goal

pub returns-in-Err-clause-err : goal.returns-in-Err-clause-err
returns-in-Err-clause-err g c = group_untested g.P.Pages.store g.M.MergeOperator.meant c.args.self.now ((c.args.tree.now, c.args.batch) ∷ []) c.in-Err.e c.in-Err.ensures.err

pub returns-in-Err-clone-clause-err : goal.returns-in-Err-clone-clause-err
returns-in-Err-clone-clause-err g c = group_short g.P.Pages.store g.M.MergeOperator.meant c.args.self.now ((c.args.tree.now, c.args.batch) ∷ []) c.in_default.ensures.ok c.in-Err-clone.e c.in-Err-clone.ensures.err

pub returns-in-Err-clause-refuses : goal.returns-in-Err-clause-refuses
returns-in-Err-clause-refuses g c = group_refuses g.P.Pages.store g.M.MergeOperator.meant _ _ _ {A = Unit {0}} (Err _) (returns-in-Err-clause-err g c)

pub returns-in-Err-clause-leaves : goal.returns-in-Err-clause-leaves
returns-in-Err-clause-leaves g c = group_leaves g.P.Pages.store g.M.MergeOperator.meant _ _ ((c.args.tree.now, c.args.batch) ∷ []) {A = Unit {0}} (Err _) tt (returns-in-Err-clause-err g c)

pub returns-in-Err-clone-clause-refuses : goal.returns-in-Err-clone-clause-refuses
returns-in-Err-clone-clause-refuses g c = group_refuses g.P.Pages.store g.M.MergeOperator.meant _ _ _ {A = Unit {0}} (Err _) (returns-in-Err-clone-clause-err g c)

pub returns-in-Err-clone-clause-leaves : goal.returns-in-Err-clone-clause-leaves
returns-in-Err-clone-clause-leaves g c = group_leaves g.P.Pages.store g.M.MergeOperator.meant _ _ ((c.args.tree.now, c.args.batch) ∷ []) {A = Unit {0}} (Err _) tt (returns-in-Err-clone-clause-err g c)

pub returns-clause-writes : goal.returns-clause-writes
returns-clause-writes g c = batch_wrote g.P.Pages.store g.M.MergeOperator.meant c.args.self.now c.apply_group-made.new.self c.args.tree.now c.args.batch c.in_default.ensures.ok c.apply_group-made.result
    (subst (λ t. OnOk c.apply_group-made.result (WritesMaps g.P.Pages.store g.M.MergeOperator.meant c.args.self.now ((t, c.args.batch) ∷ []) c.apply_group-made.new.self)) c.in-Ok.ensures.ok c.apply_group-made.ensures.writes)
