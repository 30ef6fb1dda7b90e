use Rattle.std.proofs.Common.{◌≡◌, ◌+◌, min}
use Rattle.sled_queues.proofs.Admitting.{admits, pushes_to}
use Rattle.sled_queues.proofs.waiting.admit_one.Goals as goal
use Rattle.sled_model.specs.Ids.{greatest_of_all}

pub returns-then-is-lt-QUEUE_LIMIT-clause-comes : goal.returns-then-is-lt-QUEUE_LIMIT-clause-comes
returns-then-is-lt-QUEUE_LIMIT-clause-comes c = admits c.args.events.now.items c.args.is c.args.missed c.requires.some c.if-is-lt-QUEUE_LIMIT.true

pub returns-clause-comes : goal.returns-clause-comes
returns-clause-comes c =
    let count : c.saturating_add.result ≡ min (c.args.missed + 1) greatest_of_all = c.saturating_add.ensures in
    pushes_to c.args.events.now.items c.pop_front-oldest.new.self.items c.args.is c.args.missed c.saturating_add.result c.requires.some c.if-is-lt-QUEUE_LIMIT.false count c.pop_front-oldest.ensures.rest
