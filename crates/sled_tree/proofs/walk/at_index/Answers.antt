use Rattle.sled_tree.proofs.Descending.{leads, leads_back}
use Rattle.sled_tree.proofs.walk.at_index.Goals as goal

pub returns-in-Some : goal.returns-in-Some
returns-in-Some c s m = rw c.walk_on.ensures (leads _ s _ _ m _ _ c.requires.clean c.requires.index (rw c.deref.ensures at c.in-Some.ensures))

pub returns-in-None : goal.returns-in-None
returns-in-None c s m = leads_back _ s _ _ m _ c.requires.clean c.requires.index (rw c.deref.ensures at c.in-None.ensures)
