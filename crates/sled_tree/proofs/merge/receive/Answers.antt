use Rattle.sled_tree.proofs.Facts.{refused}
use Rattle.sled_tree.proofs.Merges.{receives, receive_stale}
use Rattle.sled_tree.proofs.merge.receive.Goals as goal

pub returns-in-Err-replace-clause-moves : goal.returns-in-Err-replace-clause-moves
returns-in-Err-replace-clause-moves g c = refused _ _ _ _ _ c.in-Err-replace.ensures.err

pub returns-in-Ok-Err-Some-clause-moves : goal.returns-in-Ok-Err-Some-clause-moves
returns-in-Ok-Err-Some-clause-moves g c = receive_stale _ _ _ _ _ _ (rw c.in-Ok-Err-Some.field-0-is at c.in-Ok-Err-Some.ensures.ok)

pub returns-in-Ok-Ok-clause-moves : goal.returns-in-Ok-Ok-clause-moves
returns-in-Ok-Ok-clause-moves g c = rw c.to_confirm.ensures (receives _ _ _ _ _ _ (rw c.deref.ensures at (rw c.deref-2.ensures at c.in-Ok.ensures.ok)) (rw c.in-Ok-Ok.field-0-is at c.in-Ok-Ok.ensures.ok))
