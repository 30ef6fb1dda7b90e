use Rattle.std.proofs.Common.{ap}
use Rattle.std.specs.declared.ops.Bound.TheVariants.{Included}
use Rattle.sled.proofs.Reading.{begins_between}
use Rattle.sled.proofs.Scanning.{begins_as}
use Rattle.sled.proofs.db.Db.scan_prefix.Goals as goal

pub returns-clause-ok : goal.returns-clause-ok
returns-clause-ok g c = begins_as g.P.Pages.store g.M.MergeOperator.meant _ _ _ _ (begins_between g.P.Pages.store g.M.MergeOperator.meant _ _ _ c.self.view_is c.in-Ok.ensures.tested _ c.in-Ok.ensures.is _ _ _ _ (ap Included c.in-Ok-from_slice.ensures.ok) c.in-Ok-above_prefix.ensures.ok _ c.pairs_of.ensures.is)
