-- Of Change, for proofs. The change that a call makes of its leaf.
use Rattle.std.specs.Prelude.{◌≡◌, Option, Some, None}
use Rattle.sled_nodes.specs.Order.{Key}
use Rattle.sled_nodes.specs.declared.link.Link.{Link}
use Rattle.sled_nodes.specs.declared.link.Link.TheVariants as link
use Rattle.sled_nodes.specs.declared.node.Data.{Data}
use Rattle.sled_nodes.specs.declared.node.Data.TheVariants.{Leaf, Index}
use Rattle.sled_model.specs.declared.call.Call.{Call}
use Rattle.sled_model.specs.declared.decision.Decision.{Decision}
use Rattle.sled_model.specs.declared.decision.Effect.TheVariants as effect
use Rattle.sled_model.specs.declared.event.Event.{Event}
use Rattle.sled_model.specs.declared.event.Event.TheVariants as event
use Rattle.sled_model.specs.Maps.{Merge}
use Rattle.sled_model.specs.Answer.{key_of}
use Rattle.sled_tree.specs.declared.act.Change.{Change}
use Rattle.sled_tree.specs.Change.{link_of, decision_at}

-- what is held is a leaf, or an index
abbrev pub IsLeaf : Data → Type 0
IsLeaf (Leaf es) = Unit {0}
IsLeaf (Index es) = ⊥

abbrev pub IsIndex : Data → Type 0
IsIndex (Leaf es) = ⊥
IsIndex (Index es) = Unit {0}

-- the change by a decision at a key: the link of its effect, and its reply. Without an effect there is none
abbrev pub IsChangeBy : Decision → Key → Option Change → Type 0
IsChangeBy decision k None = decision.effect ≡ effect.Nothing
IsChangeBy decision k (Some change) = (link_of decision.effect k ≡ Some change.link) × (change.reply ≡ decision.reply)

-- the change that the call makes of what a leaf holds, by the operator of its tree
abbrev pub IsChangeOf : Option Merge → Call → Data → Option Change → Type 0
IsChangeOf merge call content change = IsChangeBy (decision_at merge call content) (key_of call) change

-- the link sets a pair, or takes one out
abbrev pub IsOfPair : Link → Type 0
IsOfPair (link.Set k v) = Unit {0}
IsOfPair (link.Del k) = Unit {0}
IsOfPair other = ⊥

-- what subscribers learn of it
abbrev pub event_of_link : Link → Option Event
event_of_link (link.Set k v) = Some (event.Insert k v)
event_of_link (link.Del k) = Some (event.Remove k)
event_of_link other = None
