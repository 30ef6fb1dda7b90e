use Rattle.tree_quick.proofs.Straight.{leaf_refuses, leaf_replies, leaf_links}
use Rattle.tree_quick.proofs.quick.end_at.Goals as goal

pub returns-in-Err : goal.returns-in-Err
returns-in-Err g c f same k = leaf_refuses _ _ f _ k _ same c.requires.on_key _ c.in-Err.ensures.err

pub returns-in-Ok-Replies : goal.returns-in-Ok-Replies
returns-in-Ok-Replies g c f same k = leaf_replies _ _ f _ k _ same c.requires.on_key _ (rw c.deref.ensures at (rw c.in-Ok-Replies.field-0-is at c.in-Ok-Replies.ensures.ok))

pub returns-in-Ok-Links : goal.returns-in-Ok-Links
returns-in-Ok-Links g c f same k = leaf_links _ _ f _ k _ same c.requires.on_key _ (rw c.deref.ensures at (rw c.in-Ok-Links.field-0-is at c.in-Ok-Links.ensures.ok)) _ _ c.link.ensures
