-- The change that a call makes of its leaf.
use Rattle.std.specs.Prelude.{Option, Some, None}
use Rattle.sled_nodes.specs.Order.{Key}
use Rattle.sled_nodes.specs.Node.{value_at}
use Rattle.sled_nodes.specs.declared.node.Data.{Data}
use Rattle.sled_nodes.specs.declared.link.Link.TheVariants.{Set, Del}
use Rattle.sled_nodes.specs.declared.link.Link.{Link}
use Rattle.sled_model.specs.declared.call.Call.{Call}
use Rattle.sled_model.specs.declared.decision.Decision.{Decision}
use Rattle.sled_model.specs.declared.decision.Effect.{Effect}
use Rattle.sled_model.specs.declared.decision.Effect.TheVariants as effect
use Rattle.sled_model.specs.declared.reply.Reply.{Reply}
use Rattle.sled_model.specs.Maps.{Merge}
use Rattle.sled_model.specs.Answer.{decision_of, reply_of_read, key_of}

-- the link that has this effect at the key
abbrev pub link_of : Effect → Key → Option Link
link_of effect.Nothing k = None
link_of (effect.Set v) k = Some (Set k v)
link_of effect.Remove k = Some (Del k)

-- the decision of the call by the value that a leaf has at its key, and by the operator of its tree
abbrev pub decision_at : Option Merge → Call → Data → Decision
decision_at merge call content = decision_of merge call (value_at content (key_of call))

-- the reply of a call that changes nothing of what a leaf holds. A call that has none is to link its change
abbrev pub reply_at : Call → Data → Option Reply
reply_at call content = reply_of_read call (value_at content (key_of call))
