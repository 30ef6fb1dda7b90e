use Rattle.std.proofs.Common.{refl, inl, Err}
use Rattle.sled.proofs.Importing.{opened_kept}
use Rattle.sled.proofs.Keeping.{opened_refuses, opened_leaves}
use Rattle.sled.proofs.db.Db.open_tree_keeping.Goals as goal

pub returns-in-Err-clause-refused : goal.returns-in-Err-clause-refused
returns-in-Err-clause-refused g c = record { is = inl refl }

pub returns-in-Err-clause-refuses : goal.returns-in-Err-clause-refuses
returns-in-Err-clause-refuses g c = opened_refuses g.P.Pages.store g.M.MergeOperator.meant _ _ _ (Err _) c.in-Err.ensures.err

pub returns-in-Err-clause-leaves : goal.returns-in-Err-clause-leaves
returns-in-Err-clause-leaves g c = opened_leaves g.P.Pages.store g.M.MergeOperator.meant _ _ _ (Err _) tt c.in-Err.ensures.err

pub returns-in-Ok-open_tree-clause-kept : goal.returns-in-Ok-open_tree-clause-kept
returns-in-Ok-open_tree-clause-kept g c = opened_kept g.P.Pages.store g.M.MergeOperator.meant c.args.self.now c.open_tree.new.self c.args.name.now c.in-Ok-open_tree.tree c.in-Ok-open_tree.ensures.ok g.K.Keep.kept c.in-Ok.kept c.in-Ok.ensures.ok
