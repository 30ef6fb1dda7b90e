use Rattle.sled_tree.proofs.Passing.{shut_few}
use Rattle.sled_tree.proofs.repair.repair_parent.Goals as goal

pub returns-in-LaterPointer-clause-passes : goal.returns-in-LaterPointer-clause-passes
returns-in-LaterPointer-clause-passes c = rw c.in-LaterPointer.is (shut_few _ _ _ _ (rw c.in-LaterPointer.is at c.requires.needed).1)
