-- A short name for what the model has of a queue.
use Rattle.sled_model.specs.State.{Queue}
use Rattle.sled_queues.specs.Values.{WaitingValue}

-- what waits, and nothing of what is prepared
abbrev pub queue_of : WaitingValue → Queue
queue_of w = record { tree = w.tree; prefix = w.prefix; backlog = w.backlog }
