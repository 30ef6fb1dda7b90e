use Rattle.std.proofs.Common.{sym, ◌∙◌}
use Rattle.sled_tree.proofs.Descending.{comes_to_act, comes_to_reply, comes_to_nothing}
use Rattle.sled_tree.proofs.walk.decide.Goals as goal

pub returns-in-Err : goal.returns-in-Err
returns-in-Err c s m = comes_to_nothing s _ _ c.requires.leaf c.requires.clean m _ c.requires.on_key c.in-Err.ensures.err

pub returns-in-Ok-Some : goal.returns-in-Ok-Some
returns-in-Ok-Some c s m = comes_to_reply s _ _ c.requires.leaf c.requires.clean m _ c.requires.on_key (sym (rw c.deref.ensures at c.in-Ok-Some.ensures.ok) ∙ c.in-Ok-Some.field-0-is)

pub returns-in-Ok-None : goal.returns-in-Ok-None
returns-in-Ok-None c s m = rw c.set.ensures (comes_to_act s _ _ c.requires.leaf c.requires.clean m (sym (rw c.deref.ensures at c.in-Ok-None.ensures.ok) ∙ c.in-Ok-None.field-0-is))
