use Rattle.sled_tree.proofs.Facts.{refused}
use Rattle.sled_tree.proofs.Splits.{shortens}
use Rattle.sled_tree.proofs.split.install_left.Goals as goal

pub returns-in-Err-clause-moves : goal.returns-in-Err-clause-moves
returns-in-Err-clause-moves g c = refused _ _ _ _ _ c.in-Err.ensures.err

pub returns-in-Parent-clause-moves : goal.returns-in-Parent-clause-moves
returns-in-Parent-clause-moves g c = shortens _ _ _ _ _ (rw c.into_node.ensures at (rw c.in-Ok-Ok.field-0-is at c.in-Ok-Ok.ensures.ok)) _ c.in-Parent.is

pub returns-in-Root-clause-moves : goal.returns-in-Root-clause-moves
returns-in-Root-clause-moves g c = shortens _ _ _ _ _ (rw c.into_node.ensures at (rw c.in-Ok-Ok.field-0-is at c.in-Ok-Ok.ensures.ok)) _ c.in-Root.is

pub returns-in-Nowhere-clause-moves : goal.returns-in-Nowhere-clause-moves
returns-in-Nowhere-clause-moves g c = shortens _ _ _ _ _ (rw c.into_node.ensures at (rw c.in-Ok-Ok.field-0-is at c.in-Ok-Ok.ensures.ok)) _ c.in-Nowhere.is
