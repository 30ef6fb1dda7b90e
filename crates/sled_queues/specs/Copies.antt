-- A copy of a part of a map, which the events of the map keep up to date.
use Rattle.std.specs.Prelude.{◌≡◌, ℕ, nat_eq, Bool, List, [], ◌∷◌, ◌++◌, Option, Some, None, if◌then◌else◌}
use Rattle.std.specs.List.{starts_with, filter}
use Rattle.std.specs.FinMap.Entries.{put, find}
use Rattle.sled_nodes.specs.Order.{Key, key_cmp}
use Rattle.sled_nodes.specs.Node.{without}
use Rattle.sled_model.specs.Maps.{Map}
use Rattle.sled_model.specs.Answer.{map_after, event_of}
use Rattle.sled_model.specs.Event.{key_of_event}
use Rattle.sled_model.specs.State.{Queue}
use Rattle.sled_model.specs.Queues.{backlog_in, waiting_in}
use Rattle.sled_model.specs.declared.decision.Effect.{Effect}
use Rattle.sled_model.specs.declared.event.Event.{Event}
use Rattle.sled_model.specs.declared.event.Event.TheVariants.{Insert, Remove}
use Rattle.sled_model.specs.declared.event.Next.{Next}
use Rattle.sled_model.specs.declared.event.Next.TheVariants as told
use Rattle.sled_queues.specs.Events.{Turn, Comes, after_turns, taken_by, Stays}

-- a map that an event changes, and that events change one after the other
abbrev pub after_event : Event → Map → Map
after_event (Insert key value) m = put key_cmp key value m
after_event (Remove key) m = without key m

abbrev pub after_events : List Event → Map → Map
after_events [] m = m
after_events (e ∷ es) m = after_events es (after_event e m)

-- for an event that may be absent: without one nothing changes
abbrev pub after_event_of : Option Event → Map → Map
after_event_of None m = m
after_event_of (Some e) m = after_event e m

-- the event of a call describes all that the call changes in its tree's map
abbrev pub ChangesLaw : Type 0
ChangesLaw = (effect : Effect) (key : Key) (m : Map) → map_after effect key m ≡ after_event_of (event_of effect key) m

-- the event speaks of a key that begins so; those that do, in order
abbrev pub is_under : Key → Event → Bool
is_under prefix e = starts_with nat_eq (key_of_event e) prefix

abbrev pub events_under : Key → List Event → List Event
events_under prefix es = filter (is_under prefix) es

-- the copy has what the map has under the prefix, and nothing else
pub record IsCopy (prefix : Key) (copy m : Map) : Type 0 where
  pub has : (key : Key) → find key_cmp key copy ≡ if starts_with nat_eq key prefix then find key_cmp key m else None

-- A copy that is changed by the events under its prefix is a copy of the map that all events change
abbrev pub CopyLaw : Type 0
CopyLaw = (prefix : Key) (events : List Event) (copy m : Map) → IsCopy prefix copy m → IsCopy prefix (after_events (events_under prefix events) copy) (after_events events m)

-- the events that came to a tree, in order
abbrev pub came_to_at : ℕ → Turn → List Event
came_to_at tree (Comes at e) = if nat_eq tree at then e ∷ [] else []
came_to_at tree t = []

abbrev pub came_to : ℕ → List Turn → List Event
came_to tree [] = []
came_to tree (t ∷ ts) = came_to_at tree t ++ came_to tree ts

-- the events among these answers, and that none of the answers is a count of missed events
abbrev pub events_told : List Next → List Event
events_told [] = []
events_told (told.Event e ∷ ns) = e ∷ events_told ns
events_told (told.Missed n ∷ ns) = events_told ns

abbrev pub TellsEvents : List Next → Type 0
TellsEvents [] = Unit {0}
TellsEvents (told.Event e ∷ ns) = TellsEvents ns
TellsEvents (told.Missed n ∷ ns) = ⊥

-- A subscriber that keeps a copy changes it by each event that it takes. If it missed none, and the copy, once the events that wait have
-- changed it too, was a copy of the tree's map, it still is: so if none waits any more, it is one by itself
abbrev pub FollowsLaw : Type 0
FollowsLaw = (turns : List Turn) (n : ℕ) (queues : ℕ → Option Queue) (q : Queue) → queues n ≡ Some q → Stays n turns
    → TellsEvents (taken_by n turns queues) → (backlog_in (after_turns turns queues n)).missed ≡ 0
    → (copy m : Map) → IsCopy q.prefix (after_events q.backlog.events copy) m
    → IsCopy q.prefix (after_events (waiting_in (after_turns turns queues n)) (after_events (events_told (taken_by n turns queues)) copy))
    (after_events (came_to q.tree turns) m)
