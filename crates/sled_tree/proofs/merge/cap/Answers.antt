use Rattle.sled_tree.proofs.Facts.{refused, stale, unable}
use Rattle.sled_tree.proofs.Merges.{caps, cap_stale}
use Rattle.sled_tree.proofs.merge.cap.Goals as goal

pub returns-in-Err-clause-moves : goal.returns-in-Err-clause-moves
returns-in-Err-clause-moves g c = unable _ _ _ _ c.in-Err.ensures.err

pub returns-in-Err-link-clause-moves : goal.returns-in-Err-link-clause-moves
returns-in-Err-link-clause-moves g c = refused _ _ _ _ _ c.in-Err-link.ensures.err

pub returns-in-Ok-Err-None-clause-moves : goal.returns-in-Ok-Err-None-clause-moves
returns-in-Ok-Err-None-clause-moves g c = stale _ _ _ _ (λ q i. i) (rw c.in-Ok-Err-None.field-0-is at c.in-Ok-Err-None.ensures.ok)

pub returns-in-Ok-Err-Some-clause-moves : goal.returns-in-Ok-Err-Some-clause-moves
returns-in-Ok-Err-Some-clause-moves g c = cap_stale _ _ _ _ _ (rw c.in-Ok-Err-Some.field-0-is at c.in-Ok-Err-Some.ensures.ok)

pub returns-in-Ok-Ok-clause-moves : goal.returns-in-Ok-Ok-clause-moves
returns-in-Ok-Ok-clause-moves g c = rw c.in-Ok.ensures.ok (rw c.deref.ensures (caps _ _ _ _ _ (rw c.in-Ok-Ok.field-0-is at c.in-Ok-Ok.ensures.ok)))
