use Rattle.sled_tree.proofs.Descending.{comes_to_give}
use Rattle.sled_tree.proofs.walk.keep.Goals as goal

pub returns : goal.returns
returns c s m = rw c.set.ensures (comes_to_give s _ _ c.requires.leaf c.requires.clean m c.requires.scan)
