-- What happens to queues, in order, and what a subscriber gets of it.
use Rattle.std.specs.Prelude.{ℕ, nat_eq, Bool, false, ◌≡◌, List, [], ◌∷◌, ◌++◌, Option, Some, None, option_map, if◌then◌else◌}
use Rattle.std.specs.Option.{option_to_list}
use Rattle.sled_nodes.specs.Order.{Key}
use Rattle.sled_store.specs.Update.{put_at}
use Rattle.sled_model.specs.Backlog.{no_backlog, next_of}
use Rattle.sled_model.specs.State.{Queue, matches, queues_after}
use Rattle.sled_model.specs.Queues.{backlog_in, without_next}
use Rattle.sled_model.specs.declared.event.Event.{Event}
use Rattle.sled_model.specs.declared.event.Next.{Next}

-- what happens to queues: an event comes to a tree, a subscriber watches a prefix of a tree, takes what is next, or ends
pub data Turn : Type 0 where
  Comes : (tree : ℕ) (event : Event) → Turn
  Watches : (subscriber tree : ℕ) (prefix : Key) → Turn
  Takes : (subscriber : ℕ) → Turn
  Ends : (subscriber : ℕ) → Turn

abbrev pub after_turn : Turn → (ℕ → Option Queue) → ℕ → Option Queue
after_turn (Comes tree e) queues = queues_after tree (Some e) queues
after_turn (Watches n tree prefix) queues = put_at queues n (Some (record { tree = tree; prefix = prefix; backlog = no_backlog }))
after_turn (Takes n) queues = put_at queues n (option_map without_next (queues n))
after_turn (Ends n) queues = put_at queues n None

abbrev pub after_turns : List Turn → (ℕ → Option Queue) → ℕ → Option Queue
after_turns [] queues = queues
after_turns (t ∷ ts) queues = after_turns ts (after_turn t queues)

-- what a subscriber takes at these turns, in order
abbrev pub taken_at : ℕ → Turn → (ℕ → Option Queue) → List Next
taken_at n (Takes m) queues = if nat_eq m n then option_to_list (next_of (backlog_in (queues n))) else []
taken_at n t queues = []

abbrev pub taken_by : ℕ → List Turn → (ℕ → Option Queue) → List Next
taken_by n [] queues = []
taken_by n (t ∷ ts) queues = taken_at n t queues ++ taken_by n ts (after_turn t queues)

-- the events that come at these turns and that a queue waits for, in order
abbrev pub brought_at : Queue → Turn → List Event
brought_at q (Comes tree e) = if matches tree e q then e ∷ [] else []
brought_at q t = []

abbrev pub brought : Queue → List Turn → List Event
brought q [] = []
brought q (t ∷ ts) = brought_at q t ++ brought q ts

-- the subscriber begins or ends at this turn
abbrev pub begins_or_ends : ℕ → Turn → Bool
begins_or_ends n (Watches m tree prefix) = nat_eq m n
begins_or_ends n (Ends m) = nat_eq m n
begins_or_ends n t = false

-- it does neither at these turns
abbrev pub Stays : ℕ → List Turn → Type 0
Stays n [] = Unit {0}
Stays n (t ∷ ts) = (begins_or_ends n t ≡ false) × Stays n ts
