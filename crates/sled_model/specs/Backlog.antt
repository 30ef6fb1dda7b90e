-- What waits for a subscriber: at most 1024 events, and a count of those that it missed.
use Rattle.std.specs.Prelude.{ℕ, ◌+◌, min, nat_eq, nat_le, List, [], ◌∷◌, ◌++◌, length, drop, Option, Some, option_map, slice_get, if◌then◌else◌}
use Rattle.sled_model.specs.Ids.{greatest_of_all}
use Rattle.sled_model.specs.declared.event.Event.{Event}
use Rattle.sled_model.specs.declared.event.Next.{Next}
use Rattle.sled_model.specs.declared.event.Next.TheVariants as told

-- how many events were missed since that was last returned, and the events that wait, the oldest first
pub record Backlog : Type 0 where
  pub missed : ℕ
  pub events : List Event

-- so many events wait at the most
abbrev pub queue_limit : ℕ
queue_limit = 1024

-- nothing waits, and nothing was missed
abbrev pub no_backlog : Backlog
no_backlog = record { missed = 0; events = [] }

-- An event comes. If 1024 wait, the oldest goes and is counted, up to the greatest u64, where the count stays
abbrev pub comes : Event → Backlog → Backlog
comes e b = if nat_le queue_limit (length b.events)
    then (record { missed = min (b.missed + 1) greatest_of_all; events = drop 1 b.events ++ e ∷ [] })
    else (record b { events = b.events ++ e ∷ [] })

-- events come, one after the other
abbrev pub come_all : List Event → Backlog → Backlog
come_all [] b = b
come_all (e ∷ es) b = come_all es (comes e b)

-- what is returned next: how many events were missed, if some were, or else the oldest event that waits
abbrev pub next_of : Backlog → Option Next
next_of b = if nat_eq b.missed 0 then option_map told.Event (slice_get b.events 0) else Some (told.Missed b.missed)

-- .. and what is left then
abbrev pub after_next : Backlog → Backlog
after_next b = if nat_eq b.missed 0 then (record b { events = drop 1 b.events }) else (record b { missed = 0 })
