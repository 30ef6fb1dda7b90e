use Rattle.std.proofs.Common.{◌∙◌}
use Rattle.tree_pages.proofs.Dropping.{root_dropped}
use Rattle.tree_pages.proofs.drop.drop_root.Goals as goal

pub returns-clause-ok : goal.returns-clause-ok
returns-clause-ok g c = root_dropped _ _ _ _ _ _ _ c.requires (c.as_slice.ensures.value ∙ c.in-Ok.ensures.ok) c.in-Ok-Ok.ensures.ok c.in-Ok-Ok.field-0-is c.free_levels.ensures
