-- What contracts see of queues.
use Rattle.std.specs.Prelude.{ℕ, List, Option}
use Rattle.std.specs.Map.{lookup}
use Rattle.std.specs.BTreeMap.{is_at}
use Rattle.std.specs.Ordering.{nat_cmp}
use Rattle.sled_nodes.specs.Order.{Key}
use Rattle.sled_model.specs.Backlog.{Backlog}
use Rattle.sled_model.specs.declared.event.Event.{Event}

-- A queue: the tree and the prefix that its subscriber watches, what waits for it, and the events that are prepared, which will come to it
pub record WaitingValue : Type 0 where
  pub tree : ℕ
  pub prefix : Key
  pub backlog : Backlog
  pub coming : List Event

-- the queues by subscriber, and how many subscribers were numbered so far
pub record QueuesValue : Type 0 where
  pub queues : List (ℕ × WaitingValue)
  pub given : ℕ

-- queues by subscriber
abbrev pub Waitings : Type 0
Waitings = ℕ → Option WaitingValue

-- the queue of a subscriber
abbrev pub queue_at : QueuesValue → Waitings
queue_at v n = lookup (is_at (nat_cmp n)) v.queues
