-- What a point call makes of its tree's map, what it replies, and what subscribers learn.
use Rattle.std.specs.Prelude.{◌≡◌, ◌≢◌, [], Option, Some, None, is_some, Ok, Err, if◌then◌else◌}
use Rattle.std.specs.FinMap.Entries.{put, find}
use Rattle.std.specs.Option.{option_eq}
use Rattle.std.specs.Str.{bytes_eq}
use Rattle.sled_nodes.specs.Order.{Key, key_cmp}
use Rattle.sled_nodes.specs.Node.{without}
use Rattle.sled_model.specs.Maps.{Map, Merge}
use Rattle.sled_model.specs.declared.call.Call.{Call}
use Rattle.sled_model.specs.declared.call.Call.TheVariants.{Get, Insert, Remove, CompareAndSwap, Scan}
use Rattle.sled_model.specs.declared.call.Call.TheVariants as call
use Rattle.sled_model.specs.declared.decision.Decision.{Decision}
use Rattle.sled_model.specs.declared.decision.Effect.{Effect}
use Rattle.sled_model.specs.declared.decision.Effect.TheVariants as effect
use Rattle.sled_model.specs.declared.reply.Reply.TheVariants.{Value, Swapped, End}
use Rattle.sled_model.specs.declared.reply.Reply.{Reply}
use Rattle.sled_model.specs.declared.event.Event.{Event}
use Rattle.sled_model.specs.declared.event.Event.TheVariants as event

-- the key that a call on one key is about. A scan is about none, and has the empty one
abbrev pub key_of : Call → Key
key_of (Get k) = k
key_of (Insert k v) = k
key_of (Remove k) = k
key_of (CompareAndSwap k old new) = k
key_of (call.Merge k bytes) = k
key_of (Scan lo hi back) = []

-- a value is written, or none is left
abbrev pub effect_of_write : Option Key → Effect
effect_of_write None = effect.Remove
effect_of_write (Some v) = effect.Set v

-- a swap, at a key that has `value`: it writes even if the new value is equal, and removes even if there is none
abbrev pub decision_of_swap : Option Key → Option Key → Option Key → Decision
decision_of_swap value old new =
    if option_eq bytes_eq value old
    then (record { effect = effect_of_write new; reply = Swapped (Ok tt) })
    else (record { effect = effect.Nothing; reply = Swapped (Err (record { current = value; proposed = new })) })

-- What becomes of the value at the call's key, if it has one, and the reply, by the merge operator of the tree: a merge writes what the
-- operator makes of the key's value and the bytes. Without an operator, if it must be refused before, it would leave no value
abbrev pub decision_of : Option Merge → Call → Option Key → Decision
decision_of merge (Get k) value = record { effect = effect.Nothing; reply = Value value }
decision_of merge (Insert k v) value = record { effect = if option_eq bytes_eq value (Some v) then effect.Nothing else (effect.Set v); reply = Value value }
decision_of merge (Remove k) value = record { effect = if is_some value then effect.Remove else effect.Nothing; reply = Value value }
decision_of merge (CompareAndSwap k old new) value = decision_of_swap value old new
decision_of None (call.Merge k bytes) value = record { effect = effect.Remove; reply = Value None }
decision_of (Some merge) (call.Merge k bytes) value = record { effect = effect_of_write (merge k value bytes); reply = Value (merge k value bytes) }
decision_of merge (Scan lo hi back) value = record { effect = effect.Nothing; reply = End }

-- the reply of a swap that finds another value than it expects
abbrev pub reply_of_swap : Option Key → Option Key → Option Key → Option Reply
reply_of_swap value old new = if option_eq bytes_eq value old then None else (Some (Swapped (Err (record { current = value; proposed = new }))))

-- The reply of a call by the value that was read, if it changes nothing. A call that has none is to link its change: a merge
-- always is, and a swap that finds what it expects. A scan changes nothing
abbrev pub reply_of_read : Call → Option Key → Option Reply
reply_of_read (Get k) value = Some (Value value)
reply_of_read (Insert k v) value = if option_eq bytes_eq value (Some v) then (Some (Value value)) else None
reply_of_read (Remove k) value = if is_some value then None else (Some (Value value))
reply_of_read (CompareAndSwap k old new) value = reply_of_swap value old new
reply_of_read (call.Merge k bytes) value = None
reply_of_read (Scan lo hi back) value = Some End

-- with a reply there is no effect, and without one there is an effect
abbrev pub read_decides_as : Decision → Option Reply → Type 0
read_decides_as decision (Some reply) = decision ≡ record { effect = effect.Nothing; reply = reply }
read_decides_as decision None = decision.effect ≢ effect.Nothing

-- the reply is the one of the value that was read, and the call has that reply with any operator
pub record ReadDecides (c : Call) (value : Option Key) (reply : Option Reply) : Type 0 where
  pub is : reply ≡ reply_of_read c value
  pub decides : (merge : Option Merge) → read_decides_as (decision_of merge c value) reply

-- the map after the effect at the key
abbrev pub map_after : Effect → Key → Map → Map
map_after effect.Nothing k m = m
map_after (effect.Set v) k m = put key_cmp k v m
map_after effect.Remove k m = without k m

-- what subscribers learn of the effect at the key
abbrev pub event_of : Effect → Key → Option Event
event_of effect.Nothing k = None
event_of (effect.Set v) k = Some (event.Insert k v)
event_of effect.Remove k = Some (event.Remove k)

pub record Answer : Type 0 where
  pub map : Map
  pub reply : Reply
  pub event : Option Event

-- the answer of a call on this map, by the merge operator of its tree
abbrev pub answer_of : Option Merge → Call → Map → Answer
answer_of merge c m = let d = decision_of merge c (find key_cmp (key_of c) m) in record { map = map_after d.effect (key_of c) m; reply = d.reply; event = event_of d.effect (key_of c) }
