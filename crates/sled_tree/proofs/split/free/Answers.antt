use Rattle.sled_tree.proofs.Facts.{refused}
use Rattle.sled_tree.proofs.Splits.{freed_own}
use Rattle.sled_tree.proofs.split.free.Goals as goal

pub returns-in-Err-clause-moves : goal.returns-in-Err-clause-moves
returns-in-Err-clause-moves g c = refused _ _ _ _ _ c.in-Err.ensures.err

pub returns-in-Ok-clause-moves : goal.returns-in-Ok-clause-moves
returns-in-Ok-clause-moves g c = freed_own _ _ _ _ _ c.in-Ok.ensures.ok
