use Rattle.sled_tree.proofs.Facts.{refused, long_enough}
use Rattle.sled_tree.proofs.Splits.{halves}
use Rattle.sled_tree.proofs.split.halve.Goals as goal

pub returns-in-Err-allocate-clause-moves : goal.returns-in-Err-allocate-clause-moves
returns-in-Err-allocate-clause-moves g c = refused _ _ _ _ _ c.in-Err-allocate.ensures.err

pub returns-clause-moves : goal.returns-clause-moves
returns-clause-moves g c = rw c.set_next.ensures (rw c.in-Ok-new.ensures.ok (halves _ _ _ _ _ _ _ _ _ (long_enough _ _ (rw c.deref.ensures at c.should_split.ensures) c.if-not-should_split.false) (rw c.deref-2.ensures at c.in-Ok.ensures.ok.0) (rw c.deref-2.ensures at c.in-Ok.ensures.ok.1) c.in-Ok-clone.ensures.ok c.in-Ok-allocate.ensures.ok c.law_given.ensures))
