use Rattle.sled_tree.proofs.Facts.{unable, restarts, refused}
use Rattle.sled_tree.proofs.Splits.{posted}
use Rattle.sled_tree.proofs.split.post.Goals as goal

pub returns-in-Err-clause-moves : goal.returns-in-Err-clause-moves
returns-in-Err-clause-moves g c = unable _ _ _ _ c.in-Err.ensures.err

pub returns-in-Err-parent_split-clause-moves : goal.returns-in-Err-parent_split-clause-moves
returns-in-Err-parent_split-clause-moves g c = unable _ _ _ _ c.in-Err-parent_split.ensures.cause

pub returns-in-Ok-false-clause-moves : goal.returns-in-Ok-false-clause-moves
returns-in-Ok-false-clause-moves g c = restarts _ _ _ (λ q i. i)

pub returns-in-Err-replace-clause-moves : goal.returns-in-Err-replace-clause-moves
returns-in-Err-replace-clause-moves g c = refused _ _ _ _ _ c.in-Err-replace.ensures.err

pub returns-in-Ok-replace-clause-moves : goal.returns-in-Ok-replace-clause-moves
returns-in-Ok-replace-clause-moves g c = posted _ _ _ _ _ _ (rw c.deref.ensures at (rw c.in-Ok.ensures.ok at (rw c.in-Ok-true.field-0-test at c.in-Ok-true.ensures.ok))) c.in-Ok-replace.ensures.ok
