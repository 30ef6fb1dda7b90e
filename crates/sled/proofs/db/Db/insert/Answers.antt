use Rattle.std.proofs.Common.{refl}
use Rattle.sled.proofs.Conducting.{tree_untested, plain_short}
use Rattle.sled.proofs.Promising.{refused, inserts}
use Rattle.sled.proofs.db.Db.insert.Goals as goal

pub returns-in-Err : goal.returns-in-Err
returns-in-Err g c = refused g.P.Pages.store g.M.MergeOperator.meant _ _ _ _ refl _ _ (tree_untested g.P.Pages.store g.M.MergeOperator.meant _ _ _ _ c.in-Err.ensures.err)

pub returns-in-Err-insert : goal.returns-in-Err-insert
returns-in-Err-insert g c = refused g.P.Pages.store g.M.MergeOperator.meant _ _ _ _ refl _ _ (plain_short g.P.Pages.store g.M.MergeOperator.meant _ _ _ _ refl c.in_default.ensures.ok c.in-Err-insert.ensures.err)

pub returns-in-Ok-make : goal.returns-in-Ok-make
returns-in-Ok-make g c = inserts g.P.Pages.store g.M.MergeOperator.meant _ _ _ _ _ c.in-Ok-make.ensures.ok c.audit.ensures.sound _ _ c.in-Ok.ensures.ok _ c.value_of.ensures

pub returns-in-Err-make : goal.returns-in-Err-make
returns-in-Err-make g c = refused g.P.Pages.store g.M.MergeOperator.meant _ _ _ _ c.in-Ok.ensures.ok _ _ c.in-Err-make.ensures.err
