use Rattle.edit_calls.proofs.Dropped.{never_passes_as}
use Rattle.edit_calls.proofs.database.drop_tree.Goals as goal

pub returns-clause-refused : goal.returns-clause-refused
returns-clause-refused g c = never_passes_as _ _ _ _ _ _ _ c.as_ref.ensures c.drop_tree.ensures.ok
