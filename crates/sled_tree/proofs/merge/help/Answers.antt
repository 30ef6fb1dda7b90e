use Rattle.std.proofs.Common.{None, refl}
use Rattle.sled_tree.proofs.merge.help.Goals as goal

pub returns-in-None : goal.returns-in-None
returns-in-None c = record { before = None; is_before = rw c.deref.ensures at c.in-None.ensures; is = refl }
