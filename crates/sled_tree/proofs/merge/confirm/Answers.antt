use Rattle.sled_tree.proofs.Facts.{refused, stale}
use Rattle.sled_tree.proofs.Merges.{confirms}
use Rattle.sled_tree.proofs.merge.confirm.Goals as goal

pub returns-in-Err-clause-moves : goal.returns-in-Err-clause-moves
returns-in-Err-clause-moves g c = refused _ _ _ _ _ c.in-Err.ensures.err

pub returns-in-Ok-Err-clause-moves : goal.returns-in-Ok-Err-clause-moves
returns-in-Ok-Err-clause-moves g c = stale _ _ _ _ (λ q i. i) (rw c.in-Ok-Err.field-0-is at c.in-Ok-Err.ensures.ok)

pub returns-in-Ok-Ok-clause-moves : goal.returns-in-Ok-Ok-clause-moves
returns-in-Ok-Ok-clause-moves g c = confirms _ _ _ _ _ (rw c.in-Ok-Ok.field-0-is at c.in-Ok-Ok.ensures.ok)
