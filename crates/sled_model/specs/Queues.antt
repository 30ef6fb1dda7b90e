-- What becomes of the queues of subscribers, but for the events that come to them (`queues_after`).
use Rattle.std.specs.Prelude.{List, Option, Some, None}
use Rattle.sled_model.specs.Backlog.{Backlog, no_backlog, after_next}
use Rattle.sled_model.specs.State.{Queue}
use Rattle.sled_model.specs.declared.event.Event.{Event}

-- what waits in a queue; in none there is nothing
abbrev pub backlog_in : Option Queue → Backlog
backlog_in None = no_backlog
backlog_in (Some q) = q.backlog

-- .. the events of it
abbrev pub waiting_in : Option Queue → List Event
waiting_in q = (backlog_in q).events

-- a queue whose subscriber got what was next
abbrev pub without_next : Queue → Queue
without_next q = record q { backlog = after_next q.backlog }
