use Rattle.sled_tree.proofs.Facts.{refused}
use Rattle.sled_tree.proofs.Splits.{raises}
use Rattle.sled_tree.proofs.hoist.hoist.Goals as goal

pub returns-in-Err-allocate-clause-moves : goal.returns-in-Err-allocate-clause-moves
returns-in-Err-allocate-clause-moves g c = refused _ _ _ _ _ c.in-Err-allocate.ensures.err

pub returns-clause-moves : goal.returns-clause-moves
returns-clause-moves g c = raises _ _ _ _ _ _ _ c.in-Ok.ensures.ok c.in-Ok-allocate.ensures.ok c.law_given.ensures
