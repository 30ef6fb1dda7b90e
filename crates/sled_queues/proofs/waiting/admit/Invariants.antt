use Rattle.std.proofs.Common.{◌≡◌, ◌≤◌, ◌+◌, ◌-◌, take, drop, length}
use Rattle.sled_model.specs.Backlog.{queue_limit, come_all}
use Rattle.sled_queues.proofs.waiting.admit.Given as goal

abbrev pub invariant-loop : goal.invariant-loop
invariant-loop l = (l.is ≤ length l.events.items) × (l.is ≤ queue_limit) × (come_all (drop l.is l.events.items) (record { missed = l.missed; events = take l.is l.events.items }) ≡ come_all (drop l.fn.is l.fn.events.items) (record { missed = l.fn.missed; events = take l.fn.is l.fn.events.items })) × (length (drop l.is l.events.items) + l.counter ≡ length l.fn.events.items - l.fn.is)
