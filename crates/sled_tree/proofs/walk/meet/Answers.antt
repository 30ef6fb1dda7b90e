use Rattle.sled_tree.proofs.Descending.{rootless, root_met, cursor_met}
use Rattle.sled_tree.proofs.walk.meet.Goals as goal

pub returns-in-None : goal.returns-in-None
returns-in-None g c = rw c.in-Root.is (rootless _ _ _ _ c.as_ref.ensures c.root.ensures c.in-None.is)

pub returns-in-Some : goal.returns-in-Some
returns-in-Some g c = rw c.in-Root.is (root_met _ _ _ _ _ c.as_ref.ensures c.root.ensures c.in-Some.is _ c.read.ensures.ok c.read.ensures.readable c.read.ensures.err)

pub returns-in-Walk : goal.returns-in-Walk
returns-in-Walk g c = rw c.in-Walk.is (cursor_met _ _ _ _ c.read-in-Walk.ensures.ok c.read-in-Walk.ensures.readable c.read-in-Walk.ensures.err)
