use Rattle.sled.proofs.Mapping.{claims_less}
use Rattle.sled.proofs.db.Db.update_and_fetch.Goals as goal

pub returns-in-Ok-clause-changes : goal.returns-in-Ok-clause-changes
returns-in-Ok-clause-changes g c = claims_less g.P.Pages.store g.M.MergeOperator.meant _ _ _ _ _ (λ before after is. is.1) c.in-Ok.ensures.changes
