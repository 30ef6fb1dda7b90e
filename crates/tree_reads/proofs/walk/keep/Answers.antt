use Rattle.tree_reads.proofs.Walking.{pushed_way}
use Rattle.tree_reads.proofs.walk.keep.Goals as goal

pub returns-in-Ok-clause-keeps : goal.returns-in-Ok-clause-keeps
returns-in-Ok-clause-keeps c = pushed_way _ _ _ c.in-Ok.ensures.items
