use Rattle.std.proofs.Common.{subst}
use Rattle.sled.specs.Sound.{IsDb}
use Rattle.sled.proofs.Trees.{maps_ascend}
use Rattle.sled.proofs.db.Db.audit.Goals as goal

pub returns-clause-ascend : goal.returns-clause-ascend
returns-clause-ascend g c = maps_ascend g.P.Pages.store g.M.MergeOperator.meant _ (subst (IsDb g.P.Pages.store) c.self.view_is c.self.invariant)
