-- What a subscriber gets: the events under its prefix of its tree since it watched, each once and in order, but for those that it missed,
-- whose number it gets.
use Rattle.std.specs.Prelude.{◌≡◌, ℕ, ◌+◌, ◌<◌, ◌≤◌, length, drop, List, [], ◌∷◌, ◌++◌, Option, Some, None}
use Rattle.sled_nodes.specs.Order.{Key}
use Rattle.sled_model.specs.Backlog.{Backlog, no_backlog}
use Rattle.sled_model.specs.State.{Queue}
use Rattle.sled_model.specs.Queues.{backlog_in}
use Rattle.sled_model.specs.Ids.{greatest_of_all}
use Rattle.sled_model.specs.declared.event.Event.{Event}
use Rattle.sled_model.specs.declared.event.Next.{Next}
use Rattle.sled_model.specs.declared.event.Next.TheVariants as told
use Rattle.sled_queues.specs.Events.{Turn, Watches, after_turn, after_turns, taken_by, brought, Stays}

-- these answers account for the first of these events, with n of them at each `Missed n`, and the others are left
abbrev pub Accounts : List Next → List Event → List Event → Type 0
Accounts [] all left = all ≡ left
Accounts (told.Event e ∷ ns) [] left = ⊥
Accounts (told.Event e ∷ ns) (first ∷ all) left = (e ≡ first) × Accounts ns all left
Accounts (told.Missed n ∷ ns) all left = (n ≤ length all) × Accounts ns (drop n all) left

-- of these events the first were missed, as many as are counted, and the others wait
pub record Holds (b : Backlog) (all : List Event) : Type 0 where
  pub counted : b.missed ≤ length all
  pub waits : drop b.missed all ≡ b.events

-- what a subscriber got, then as many as are counted, and then those that wait are all these events, in their order
pub record Hears (told : List Next) (all : List Event) (b : Backlog) : Type 0 where
  pub left : List Event
  pub accounts : Accounts told all left
  pub holds : Holds b left

-- after each of these turns the count of the subscriber's queue is below the greatest, at which it would stay
abbrev pub CountsAll : ℕ → List Turn → (ℕ → Option Queue) → Type 0
CountsAll n [] queues = Unit {0}
CountsAll n (t ∷ ts) queues = ((backlog_in (after_turn t queues n)).missed < greatest_of_all) × CountsAll n ts (after_turn t queues)

-- What a subscriber took, then as many events as are counted, and then those that wait, are those that it had at first and then those
-- that came for it, in their order. That is so if it watched before and does not end, and all that it missed was counted
abbrev pub HearsLaw : Type 0
HearsLaw = (turns : List Turn) (n : ℕ) (queues : ℕ → Option Queue) (q : Queue) → queues n ≡ Some q → Stays n turns → CountsAll n turns queues
    → (all : List Event) → Holds q.backlog all
    → Hears (taken_by n turns queues) (all ++ brought q turns) (backlog_in (after_turns turns queues n))

-- All that it missed was counted if what was counted before and the events that came are fewer than the greatest count
abbrev pub CountsLaw : Type 0
CountsLaw = (turns : List Turn) (n : ℕ) (queues : ℕ → Option Queue) (q : Queue) → queues n ≡ Some q → Stays n turns
    → q.backlog.missed + length (brought q turns) < greatest_of_all → CountsAll n turns queues

-- If it begins in the midst of these turns, they are all that came for it since
abbrev pub HearsAllLaw : Type 0
HearsAllLaw = (before after : List Turn) (n tree : ℕ) (prefix : Key) (queues : ℕ → Option Queue) → queues n ≡ None → Stays n before → Stays n after
    → CountsAll n (before ++ Watches n tree prefix ∷ after) queues
    → Hears (taken_by n (before ++ Watches n tree prefix ∷ after) queues) (brought (record { tree = tree; prefix = prefix; backlog = no_backlog }) after)
    (backlog_in (after_turns (before ++ Watches n tree prefix ∷ after) queues n))
