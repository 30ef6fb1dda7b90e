use Rattle.std.proofs.Common.{sym, ap, ◌∙◌, map}
use Rattle.sled.proofs.Naming.{names_seen}
use Rattle.sled.proofs.db.Db.tree_names.Goals as goal

pub returns-in-Ok-clause-ok : goal.returns-in-Ok-clause-ok
returns-in-Ok-clause-ok g c = names_seen g.P.Pages.store g.M.MergeOperator.meant _ _ c.self.view_is c.self.invariant (sym c.in_group.ensures ∙ c.if-in_group.false) _ (c.in-Ok.ensures.ok ∙ ap (map (λ r. r.0)) c.as_slice.ensures.value)
