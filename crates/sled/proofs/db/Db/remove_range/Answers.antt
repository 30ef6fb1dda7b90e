use Rattle.sled.proofs.Ranged.{range_unread, range_removed}
use Rattle.std.proofs.Common.{ℕ, Err, refl}
use Rattle.sled_nodes.specs.Among.{bound_of}
use Rattle.sled.proofs.Bounding.{range_changes}
use Rattle.sled.proofs.Keeping.{group_refuses, group_leaves}
use Rattle.sled.proofs.db.Db.remove_range.Goals as goal

pub returns-in-Err-clause-err : goal.returns-in-Err-clause-err
returns-in-Err-clause-err g c = range_unread g.P.Pages.store g.M.MergeOperator.meant c.args.self.now c.args.tree.now _ _ c.in-Err.e c.in-Err.ensures.err

pub returns-in-Err-clause-refuses : goal.returns-in-Err-clause-refuses
returns-in-Err-clause-refuses g c = group_refuses g.P.Pages.store g.M.MergeOperator.meant _ _ _ {A = ℕ} (Err _) (returns-in-Err-clause-err g c)

pub returns-in-Err-clause-leaves : goal.returns-in-Err-clause-leaves
returns-in-Err-clause-leaves g c = group_leaves g.P.Pages.store g.M.MergeOperator.meant _ _ _ {A = ℕ} (Err _) tt (returns-in-Err-clause-err g c)

pub returns-in-Ok-apply_batch-clause-changes : goal.returns-in-Ok-apply_batch-clause-changes
returns-in-Ok-apply_batch-clause-changes g c = range_changes g.P.Pages.store g.M.MergeOperator.meant c.args.self.now c.audit.ensures.sound c.args.tree.now (bound_of c.args.lo) (bound_of c.args.hi) c.len-count.result c.apply_batch.new.self
    (range_removed g.P.Pages.store g.M.MergeOperator.meant c.args.self.now c.args.tree.now (bound_of c.args.lo) (bound_of c.args.hi) c.in-Ok.batch c.in-Ok.ensures.ok c.apply_batch.new.self c.len-count.result c.len-count.result refl c.len-count.ensures c.in-Ok-apply_batch.ensures.ok)
