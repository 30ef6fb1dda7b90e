-- What queues are, and what each call makes of them.
use Rattle.std.specs.Prelude.{◌≡◌, ℕ, ◌<◌, ◌≤◌, [], ◌∷◌, ◌++◌, length, Option, Some, None, option_map, if◌then◌else◌}
use Rattle.sled_nodes.specs.Order.{Key}
use Rattle.sled_store.specs.Update.{put_at}
use Rattle.sled_model.specs.Backlog.{queue_limit, no_backlog, come_all, next_of, after_next}
use Rattle.sled_model.specs.State.{Queue, matches}
use Rattle.sled_model.specs.declared.event.Event.{Event}
use Rattle.sled_model.specs.declared.event.Next.{Next}
use Rattle.sled_queues.specs.Values.{WaitingValue, QueuesValue, Waitings, queue_at}

-- what the model has of the queues: what waits, and nothing of what is prepared
abbrev pub queues_of : Waitings → ℕ → Option Queue
queues_of queues n = option_map (λ w. record { tree = w.tree; prefix = w.prefix; backlog = w.backlog }) (queues n)

-- What always holds of queues: the subscribers have numbers from 1 to the last one that was given, and no more than 1024 events wait in a
-- queue
pub record AreQueues (v : QueuesValue) : Type 0 where
  pub numbered : (n : ℕ) (w : WaitingValue) → queue_at v n ≡ Some w → (0 < n) × (n ≤ v.given)
  pub within : (n : ℕ) (w : WaitingValue) → queue_at v n ≡ Some w → length w.backlog.events ≤ queue_limit

-- nothing is prepared
pub record IsCalm (queues : Waitings) : Type 0 where
  pub none : (n : ℕ) (w : WaitingValue) → queues n ≡ Some w → w.coming ≡ []

-- the queues are these now, and so many numbers were given
pub record Becomes (queues : Waitings) (given : ℕ) (new : QueuesValue) : Type 0 where
  pub held : queue_at new ≡ queues
  pub count : new.given ≡ given

-- no subscribers
abbrev pub no_queues : Waitings
no_queues n = None

-- one subscriber more: its queue is empty
abbrev pub with_subscriber : ℕ → ℕ → Key → Waitings → Waitings
with_subscriber n tree prefix queues = put_at queues n (Some (record { tree = tree; prefix = prefix; backlog = no_backlog; coming = [] }))

-- the event is prepared in each queue that waits for it
abbrev pub prepared_in : ℕ → Event → WaitingValue → WaitingValue
prepared_in tree e w = if matches tree e (record { tree = w.tree; prefix = w.prefix; backlog = w.backlog }) then (record w { coming = w.coming ++ e ∷ [] }) else w

abbrev pub prepared : ℕ → Event → Waitings → Waitings
prepared tree e queues n = option_map (prepared_in tree e) (queues n)

-- the events that are prepared come, one after the other
abbrev pub committed_in : WaitingValue → WaitingValue
committed_in w = record w { backlog = come_all w.coming w.backlog; coming = [] }

abbrev pub committed : Waitings → Waitings
committed queues n = option_map committed_in (queues n)

-- the events that were prepared are dropped
abbrev pub cancelled_in : WaitingValue → WaitingValue
cancelled_in w = record w { coming = [] }

abbrev pub cancelled : Waitings → Waitings
cancelled queues n = option_map cancelled_in (queues n)

-- what a subscriber gets next, and its queue after that
abbrev pub next_at : Option WaitingValue → Option Next
next_at None = None
next_at (Some w) = next_of w.backlog

abbrev pub taken_in : WaitingValue → WaitingValue
taken_in w = record w { backlog = after_next w.backlog }

abbrev pub without_next_of : ℕ → Waitings → Waitings
without_next_of n queues = put_at queues n (option_map taken_in (queues n))

-- without the queue of a subscriber
abbrev pub without_subscriber : ℕ → Waitings → Waitings
without_subscriber n queues = put_at queues n None
