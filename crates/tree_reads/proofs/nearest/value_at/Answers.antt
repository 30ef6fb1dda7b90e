use Rattle.tree_reads.proofs.Seeking.{empty_least, value_found}
use Rattle.tree_reads.proofs.nearest.value_at.Goals as goal

pub leaf_at-requires : goal.leaf_at-requires
leaf_at-requires g c = empty_least _

pub returns-in-Ok-get-clause-ok : goal.returns-in-Ok-get-clause-ok
returns-in-Ok-get-clause-ok g c = value_found _ _ _ _ _ _ c.in-Ok.ensures.ok _ c.deref.ensures _ c.in-Ok-get.ensures.ok
