-- The state of a database with calls in flight.
use Rattle.std.specs.Prelude.{◌≡◌, ℕ, Bool, List, nat_eq, ◌&&◌, Option, Some, None, option_map, codes, if◌then◌else◌}
use Rattle.std.specs.List.{starts_with}
use Rattle.sled_nodes.specs.Order.{Key}
use Rattle.sled_nodes.specs.Ranges.{Range}
use Rattle.sled_store.specs.Update.{put_name}
use Rattle.sled_model.specs.Maps.{Map, Maps, Merge}
use Rattle.sled_model.specs.Event.{key_of_event}
use Rattle.sled_model.specs.Answer.{Answer}
use Rattle.sled_model.specs.Backlog.{Backlog, comes}
use Rattle.sled_model.specs.declared.call.Call.{Call}
use Rattle.sled_model.specs.declared.call.Call.TheVariants.{Scan}
use Rattle.sled_model.specs.declared.event.Event.{Event}
use Rattle.sled_model.specs.declared.tree.Tree.{Tree}

-- the name of the default tree, which every database has
unfoldable pub default_name : Key
default_name = codes "__sled__default"

-- a tree of the database: its number, its map, and its merge operator if it has one
pub record NamedTree : Type 0 where
  pub number : ℕ
  pub map : Map
  pub merge : Option Merge

-- a subscriber's queue: the tree and the prefix that it watches, and what waits for it
pub record Queue : Type 0 where
  pub tree : ℕ
  pub prefix : Key
  pub backlog : Backlog

-- a call in flight: its tree, the call, its turns, and of a scan the pairs that wait and the range still to read
pub record CallInFlight : Type 0 where
  pub tree : Tree
  pub call : Call
  pub turns : ℕ
  pub waiting : List (Key × Key)
  pub rest : Option Range

pub record State : Type 0 where
  -- the database's name
  pub name : Key
  pub trees : Key → Option NamedTree
  -- queues by subscriber, calls in flight by slot
  pub queues : ℕ → Option Queue
  pub slots : ℕ → Option CallInFlight
  -- no group was refused midway
  pub is_open : Bool
  -- the greatest id that was given, and the ids up to the mark are set aside
  pub greatest_id : ℕ
  pub mark : ℕ
  -- how many trees, slots and subscribers were numbered so far
  pub trees_given : ℕ
  pub slots_given : ℕ
  pub subscribers_given : ℕ

-- the maps alone
abbrev pub maps_of : State → Maps
maps_of s name = option_map (λ t. t.map) (s.trees name)

-- the range of a scan. A call on one key has none
abbrev pub range_of : Call → Option Range
range_of (Scan lo hi back) = Some (record { lo = lo; hi = hi; back = back })
range_of call = None

-- the call is one on a key, and no scan
abbrev pub IsOnKey : Call → Type 0
IsOnKey call = range_of call ≡ None

-- the event is one that the queue waits for
abbrev pub matches : ℕ → Event → Queue → Bool
matches tree e q = nat_eq q.tree tree && starts_with nat_eq (key_of_event e) q.prefix

-- the event comes to each queue that waits for it
abbrev pub queues_after : ℕ → Option Event → (ℕ → Option Queue) → ℕ → Option Queue
queues_after tree None queues n = queues n
queues_after tree (Some e) queues n = option_map (λ q. if matches tree e q then (record q { backlog = comes e q.backlog }) else q) (queues n)

-- the state after a call was decided on the tree of this name
abbrev pub after_decision_on : State → Key → NamedTree → Answer → State
after_decision_on s name t a = record s {
  trees = put_name s.trees name (Some (record t { map = a.map }));
  queues = queues_after t.number a.event s.queues;
}
