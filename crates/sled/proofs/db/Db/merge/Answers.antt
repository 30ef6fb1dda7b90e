use Rattle.std.proofs.Common.{refl}
use Rattle.sled_model.specs.declared.call.Call.TheVariants.{Merge}
use Rattle.sled.proofs.Conducting.{point_untested, point_short}
use Rattle.sled.proofs.Promising.{refused, merges}
use Rattle.sled.proofs.db.Db.merge.Goals as goal

pub returns-in-Err : goal.returns-in-Err
returns-in-Err g c = refused g.P.Pages.store g.M.MergeOperator.meant _ _ _ _ refl _ _ (point_untested g.P.Pages.store g.M.MergeOperator.meant _ _ _ _ (c.in-Err.ensures.err (Merge c.args.key.now c.args.bytes.now) refl))

pub returns-in-Err-merge : goal.returns-in-Err-merge
returns-in-Err-merge g c = refused g.P.Pages.store g.M.MergeOperator.meant _ _ _ _ refl _ _ (point_short g.P.Pages.store g.M.MergeOperator.meant _ _ _ _ (c.in_default.ensures.ok (Merge c.args.key.now c.args.bytes.now)) c.in-Err-merge.ensures.err)

pub returns-in-Ok-make : goal.returns-in-Ok-make
returns-in-Ok-make g c = merges g.P.Pages.store g.M.MergeOperator.meant _ _ _ _ _ c.in-Ok-make.ensures.ok _ _ c.in-Ok.ensures.ok _ c.value_of.ensures

pub returns-in-Err-make : goal.returns-in-Err-make
returns-in-Err-make g c = refused g.P.Pages.store g.M.MergeOperator.meant _ _ _ _ c.in-Ok.ensures.ok _ _ c.in-Err-make.ensures.err
