use Rattle.sled_tree.proofs.Facts.{refused}
use Rattle.sled_tree.proofs.Splits.{after_swap_root}
use Rattle.sled_tree.proofs.hoist.swap_root.Goals as goal

pub returns-in-Err-clause-moves : goal.returns-in-Err-clause-moves
returns-in-Err-clause-moves g c = refused _ _ _ _ _ c.in-Err.ensures.err

pub returns-in-Ok-Ok-clause-moves : goal.returns-in-Ok-Ok-clause-moves
returns-in-Ok-Ok-clause-moves g c = after_swap_root _ _ _ _ _ _ c.as_ref.ensures (rw c.in-Ok-Ok.field-0-is at c.in-Ok-Ok.ensures.ok)
